use Rattle.std.proofs.Common.{◌≡◌, take, filter}
use Rattle.guard_files.specs.Mounted.{goes}
use Rattle.guard_files.proofs.settling.going.Given as goal

abbrev pub invariant-loop-name : goal.invariant-loop-name
invariant-loop-name l = l.gone.items ≡ filter (goes l.held) (take l.name-index l.names)
