use Rattle.std.proofs.Common.{◌≡◌, take}
use Rattle.bucket_store.proofs.copies.all_changes.Given as goal

abbrev pub invariant-loop-change : goal.invariant-loop-change
invariant-loop-change l = l.copy.items ≡ take l.change-index l.changes
