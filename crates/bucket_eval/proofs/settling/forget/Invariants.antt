use Rattle.std.proofs.Common.{◌≡◌, ◌<◌, ℕ, false, length}
use Rattle.bucket_eval.specs.parts.Slots.{is_known}
use Rattle.bucket_eval.proofs.settling.forget.Given as goal

-- nothing is known of the buckets before this one
abbrev pub invariant-loop-at : goal.invariant-loop-at
invariant-loop-at l =
    ((k : ℕ) → k < l.at → is_known l.slots k ≡ false) × (length l.slots ≡ length l.initial.slots)
