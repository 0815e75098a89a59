use Rattle.std.proofs.Common.{◌≡◌, take}
use Rattle.script_replies.specs.Levels.{privileges_in}
use Rattle.script_replies.proofs.levels.privileges_in.Given as goal

abbrev pub invariant-loop-key : goal.invariant-loop-key
invariant-loop-key l = l.names.items ≡ privileges_in (take l.key-index l.keys)
