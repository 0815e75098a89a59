use Rattle.std.proofs.Common.{◌≡◌, take}
use Rattle.desk_state.proofs.commands.changes_copy.Given as goal

abbrev pub invariant-loop-change : goal.invariant-loop-change
invariant-loop-change l = l.copies.items ≡ take l.change-index l.list
