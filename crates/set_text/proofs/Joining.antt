-- A line as its first field, and each other one behind a semicolon.
use Rattle.std.proofs.Common.{◌≡◌, ℕ, List, [], ◌∷◌, ◌++◌, refl, sym, ap, append-nil, append_assoc}
use Rattle.std.specs.List.{flat_map}
use Rattle.set_text.specs.Lines.{joined}

pub joined-cons : (first : List ℕ) (rest : List (List ℕ))
    → joined (first ∷ rest) ≡ first ++ flat_map (λ field. 59 ∷ field) rest
joined-cons first [] = sym (append-nil first)
joined-cons first (next ∷ rest) = ap (λ text. first ++ 59 ∷ text) (joined-cons next rest)

-- the pieces of an install's line, appended one after the other
pub install-line : (old «package» author app scope privileges : List ℕ)
    → (((old ++ («package» ++ (59 ∷ (author ++ (59 ∷ (app ++ 59 ∷ [])))))) ++ scope) ++ privileges) ++ 10 ∷ []
    ≡ old ++ ((«package» ++ (59 ∷ (author ++ (59 ∷ (app ++ (59 ∷ (scope ++ privileges))))))) ++ 10 ∷ [])
install-line old «package» author app scope privileges = simp append_assoc refl
