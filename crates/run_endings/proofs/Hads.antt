-- What a source had, from what it gave.
use Rattle.std.proofs.Common.{◌≡◌, ◌++◌, [], ℕ, List, Option, Some, None, refl, sym, ap, ◌∙◌, subst}
use Rattle.desk_ports.specs.Content.{Took, ReadToEnd}
use Rattle.run_endings.specs.Outside.{HadInput}

-- the input is what was given, and then what is left; nothing is, where the source was read to its end
pub Took-Had : (left left_after : Option (List ℕ)) (given : List ℕ) → Took left given left_after
    → (rest : List ℕ) × HadInput left left_after (given ++ rest) rest × (ReadToEnd left left_after → rest ≡ [])
Took-Had None left_after given took = ([], tt, λ end. refl)
Took-Had (Some bytes) left_after given took =
    (took.0, (took.1, took.2), λ end. let same = sym took.2 ∙ end in cc)

-- a source that was read to its end and then gave nothing is at its end still
pub ReadToEnd-still : (first second third : Option (List ℕ)) (given : List ℕ) → ReadToEnd first second → Took second given third
    → given ≡ [] → ReadToEnd first third
ReadToEnd-still None second third given end took none = tt
ReadToEnd-still (Some bytes) second third given end took none =
    let took' = subst (λ (left : Option (List ℕ)). Took left given third) end took in
    let rest : [] ≡ took'.0 = took'.1 ∙ ap (λ given. given ++ took'.0) none in
    took'.2 ∙ ap Some (sym rest)
