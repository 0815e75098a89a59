use Rattle.std.proofs.Common.{◌≡◌, take, filter}
use Rattle.guard_files.specs.Mounted.{is_left_over}
use Rattle.guard_files.proofs.settling.leftover.Given as goal

abbrev pub invariant-loop-name : goal.invariant-loop-name
invariant-loop-name l = l.rest.items ≡ filter (is_left_over l.guarded l.held) (take l.name-index l.names)
