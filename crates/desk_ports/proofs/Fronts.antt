-- Lists whose front is written over.
use Rattle.std.proofs.Common.{◌≡◌, ◌≤◌, ◌-◌, ◌++◌, ℕ, List, length, take, drop, ap, sym, subst, ◌∙◌}
use Rattle.std.proofs.Math.Nat.{add-sub_of_le}
use Rattle.std.proofs.Math.Seq.{take-append-add}
use Rattle.std.proofs.lemmas.List.{drop-take}

-- The front of a part is written over as that of the whole.
pub take_overwritten : (count : ℕ) (bytes with : List ℕ) → length with ≤ count
    → take count (with ++ drop (length with) bytes) ≡ with ++ drop (length with) (take count bytes)
take_overwritten count bytes with fits =
    subst (λ n. take n (with ++ drop (length with) bytes) ≡ with ++ drop (length with) (take n bytes))
    (add-sub_of_le fits)
    (take-append-add with (drop (length with) bytes) (count - length with)
    ∙ ap (λ rest. with ++ rest) (sym (drop-take (length with) (count - length with) bytes)))
