use Rattle.std.proofs.Common.{◌≡◌, ◌++◌, take}
use Rattle.std.specs.List.{flat_map}
use Rattle.script_replies.specs.Sharing.{rule_text}
use Rattle.script_replies.proofs.sharing.append_rules.Given as goal

-- the rules so far stand behind what stood there
abbrev pub invariant-loop-rule : goal.invariant-loop-rule
invariant-loop-rule l = l.out ≡ l.fn.out ++ flat_map rule_text (take l.rule-index l.rules)
