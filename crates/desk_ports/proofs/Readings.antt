-- One reading after another.
use Rattle.std.proofs.Common.{◌++◌, [], ℕ, List, Option, Some, None, refl, sym, ap, ◌∙◌, subst, append_assoc}
use Rattle.desk_ports.specs.Content.{Took, ReadToEnd}

-- what two readings took
pub Took-then : (first second third : Option (List ℕ)) (xs ys : List ℕ) → Took first xs second → Took second ys third
    → Took first (xs ++ ys) third
Took-then None second third xs ys a b = tt
Took-then (Some bytes) second third xs ys a b =
    let b' = subst (λ (left : Option (List ℕ)). Took left ys third) a.2 b in
    (b'.0, a.1 ∙ (ap (λ rest. xs ++ rest) b'.1 ∙ sym (append_assoc xs ys b'.0)), b'.2)

pub Took-nothing : (left : Option (List ℕ)) → Took left [] left
Took-nothing None = tt
Took-nothing (Some bytes) = (bytes, refl, refl)

-- a source that gave bytes, and was then read to its end
pub ReadToEnd-then : (first second third : Option (List ℕ)) (xs : List ℕ) → Took first xs second → ReadToEnd second third
    → ReadToEnd first third
ReadToEnd-then None second third xs took end = tt
ReadToEnd-then (Some bytes) second third xs took end = subst (λ (left : Option (List ℕ)). ReadToEnd left third) took.2 end
