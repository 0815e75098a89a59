use Rattle.std.proofs.Common.{◌≡◌, take}
use Rattle.std.specs.Option.{option_copied}
use Rattle.desk_ports.specs.DiskCalls.{after_calls}
use Rattle.desk_ports.proofs.disk_replays.content_of.Given as goal

abbrev pub invariant-loop-made : goal.invariant-loop-made
invariant-loop-made l = option_copied l.content ≡ (after_calls l.files (take l.made-index l.calls)).current l.name
