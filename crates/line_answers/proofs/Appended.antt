-- Texts that are appended piece by piece.
use Rattle.std.proofs.Common.{◌≡◌, ℕ, List, ◌++◌, OnOk, Result, Ok, Err, ap, ◌∙◌, append_assoc}

-- a piece, and what was appended behind it
pub piece_then : (old mid new piece tail : List ℕ) → mid ≡ old ++ piece → new ≡ mid ++ tail
    → new ≡ old ++ (piece ++ tail)
piece_then old mid new piece tail first second = second ∙ ap (λ text. text ++ tail) first ∙ append_assoc old piece tail

-- what holds of a call that was done
pub on_ok-map : {T E P Q : Type 0} (result : Result T E) → (P → Q) → OnOk result P → OnOk result Q
on_ok-map (Ok value) next fact = next fact
on_ok-map (Err error) next fact = tt
