use Rattle.std.proofs.Common.{◌≡◌, ◌++◌, take}
use Rattle.rule_templates.specs.parts.Labels.{each_rules_in}
use Rattle.rule_templates.proofs.expansion.append_each.Given as goal

-- the rules for the processes so far
abbrev pub invariant-loop-process : goal.invariant-loop-process
invariant-loop-process l =
    l.rules.items ≡ l.fn.rules.items ++ each_rules_in l.labels l.line (take l.process-index l.processes)
