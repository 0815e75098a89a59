use Rattle.std.proofs.Common.{take}
use Rattle.admin_door.specs.State.{AreFiles}
use Rattle.admin_door.proofs.states.in_parts.Given as goal

-- the files so far
abbrev pub invariant-loop-file : goal.invariant-loop-file
invariant-loop-file l = AreFiles (take l.file-index l.files) l.replies.items
