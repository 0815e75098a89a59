use Rattle.std.proofs.Common.{◌≡◌, take}
use Rattle.script_replies.specs.Levels.{clients_in}
use Rattle.script_replies.proofs.levels.clients_in.Given as goal

abbrev pub invariant-loop-key : goal.invariant-loop-key
invariant-loop-key l = l.names.items ≡ clients_in (take l.key-index l.keys)
