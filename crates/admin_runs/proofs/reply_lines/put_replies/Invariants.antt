use Rattle.std.proofs.Common.{◌≡◌, ◌++◌, take}
use Rattle.std.specs.List.{flat_map}
use Rattle.admin_runs.specs.ReplyLine.{reply_text, erases}
use Rattle.admin_runs.proofs.reply_lines.put_replies.Given as goal

-- the lines so far stand behind what stood there
abbrev pub invariant-loop-reply : goal.invariant-loop-reply
invariant-loop-reply l = l.out ≡ l.fn.out ++ flat_map (reply_text (erases l.message)) (take l.reply-index l.replies)
