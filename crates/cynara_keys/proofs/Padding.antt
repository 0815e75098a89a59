-- A text that was copied to the front of an array of zeros.
use Rattle.std.proofs.Common.{◌≡◌, ℕ, ◌-◌, ◌≤◌, List, ◌++◌, length, take, drop, sym, ap, subst}
use Rattle.std.proofs.Math.ListN.{replicate}
use Rattle.std.proofs.Math.Seq.{take-append_seam}
use Rattle.std.proofs.lemmas.List.{drop-replicate}
use Rattle.cynara_keys.specs.Limits.{most_short_bytes}
use Rattle.cynara_keys.specs.parts.Short.{padded, HoldsText}

HoldsText-padded : (text : List ℕ) → length text ≤ most_short_bytes → HoldsText (length text) (padded text)
HoldsText-padded text short =
    let front : take (length text) (padded text) ≡ text = take-append_seam text (replicate (most_short_bytes - length text) 0) in
    record { short = short; counted = ap length front; zeros = ap padded (sym front) }

-- the array after the copy
pub HoldsText-copied : (text copied : List ℕ) → length text ≤ most_short_bytes → copied ≡ text
    → HoldsText (length text) (copied ++ drop (length text) (replicate most_short_bytes 0))
HoldsText-copied text copied short same =
    let rest : drop (length text) (replicate most_short_bytes 0) ≡ replicate (most_short_bytes - length text) 0 = drop-replicate (length text) most_short_bytes 0 in
    let all : copied ++ drop (length text) (replicate most_short_bytes 0) ≡ padded text = λ i. same i ++ rest i in
    subst (HoldsText (length text)) (sym all) (HoldsText-padded text short)
