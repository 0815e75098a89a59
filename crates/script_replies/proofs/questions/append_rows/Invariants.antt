use Rattle.std.proofs.Common.{◌≡◌, ◌++◌, take}
use Rattle.std.specs.List.{flat_map}
use Rattle.script_replies.specs.Reply.{policy_text}
use Rattle.script_replies.proofs.questions.append_rows.Given as goal

-- the rows so far stand behind what stood there
abbrev pub invariant-loop-policy : goal.invariant-loop-policy
invariant-loop-policy l = l.out ≡ l.fn.out ++ flat_map policy_text (take l.policy-index l.policies)
