use Rattle.std.proofs.Common.{◌≡◌, ◌<◌, ℕ, false, length}
use Rattle.bucket_eval.specs.parts.Deciding.{is_answered}
use Rattle.bucket_eval.proofs.deciding.forget.Given as goal

-- nothing is known of the buckets before this one
abbrev pub invariant-loop-at : goal.invariant-loop-at
invariant-loop-at l =
    ((k : ℕ) → k < l.at → is_answered l.slots k ≡ false) × (length l.slots ≡ length l.initial.slots)
