-- Texts that are appended one after the other.
use Rattle.std.proofs.Common.{◌≡◌, ℕ, List, ◌++◌, Result, Ok, Err, ap, ◌∙◌, append_assoc}
use Rattle.wire_fields.specs.Appended.{Appended}

pub then_last : {E : Type 0} (result : Result (Unit {0}) E) (old mid new text last : List ℕ) → mid ≡ old ++ text
    → Appended result mid new last → Appended result old new (text ++ last)
then_last (Ok unit) old mid new text last first second =
    second ∙ ap (λ (b : List ℕ). b ++ last) first ∙ append_assoc old text last
then_last (Err error) old mid new text last first second = tt
