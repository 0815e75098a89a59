use Rattle.std.proofs.Common.{◌≡◌, take}
use Rattle.std.specs.Option.{option_copied}
use Rattle.desk_ports.specs.Stopping.{last_given}
use Rattle.desk_ports.proofs.stops.bytes_given.Given as goal

abbrev pub invariant-loop-made : goal.invariant-loop-made
invariant-loop-made l = option_copied l.given ≡ last_given (take l.made-index l.calls) l.name
