use Rattle.std.proofs.Common.{◌≡◌, take}
use Rattle.std.specs.List.{flat_map}
use Rattle.rule_templates.specs.parts.Labels.{package_line_rules_in}
use Rattle.rule_templates.proofs.templates.Template.rules_for.Given as goal

-- the rules of the lines so far
abbrev pub invariant-loop-line : goal.invariant-loop-line
invariant-loop-line l =
    l.rules.items ≡ flat_map (package_line_rules_in l.labels l.processes.items) (take l.line-index l.line-items)
