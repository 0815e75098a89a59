use Rattle.std.proofs.Common.{◌≡◌, ◌+◌, ◌*◌, ◌-◌, length}
use Rattle.bucket_eval.specs.parts.Deciding.{IsLeastBelow, IsReady}
use Rattle.bucket_eval.proofs.deciding.+deciding.Given as goal

abbrev pub decreases-settle : goal.decreases-settle
decreases-settle l = 4 * l.left + 3

abbrev pub decreases-least : goal.decreases-least
decreases-least l = 4 * l.left + 2

abbrev pub decreases-lesser_in_shape : goal.decreases-lesser_in_shape
decreases-lesser_in_shape l = 4 * l.left + 1

abbrev pub decreases-followed : goal.decreases-followed
decreases-followed l = 4 * l.left

-- the best is the least of the policies whose shape is below this one
abbrev pub invariant-least-loop-shape : goal.invariant-least-loop-shape
invariant-least-loop-shape l = record {
  ready : IsReady l.asking l.slots;
  room : length l.slots ≡ length l.initial.slots;
  best : IsLeastBelow l.asking l.at l.shape l.best;
}

abbrev pub decreases-least-loop-shape : goal.decreases-least-loop-shape
decreases-least-loop-shape l = 8 - l.shape
