use Rattle.std.proofs.Common.{◌≡◌, ap, ◌∙◌, arith}
use Rattle.std.specs.List.{flat_map}
use Rattle.std.specs.Option.{option_copied}
use Rattle.std.proofs.lemmas.Grind.{common_steps}
use Rattle.rule_templates.specs.Expansion.{package_line_rules}
use Rattle.rule_templates.specs.Processes.{process_labels, distinct_labels}
use Rattle.rule_templates.specs.parts.Labels.{package_line_rules_in}
use Rattle.rule_templates.proofs.Expanded.{lines_in}
use Rattle.rule_templates.proofs.templates.Template.rules_for.Goals as goal

pub returns : goal.returns
returns c =
    let lines = c.args.self.now in
    let registry = c.args.registry.now in
    let name = c.args.package.now in
    let labels = c.in_ok-labels.labels in
    let all : c.loop-line.rules.items ≡ flat_map (package_line_rules_in labels c.in_ok-processes.processes.items) lines =
    grind (arith, common_steps) in
    let processes : c.in_ok-processes.processes.items ≡ process_labels registry name =
    c.in_ok-processes.ensures ∙ ap distinct_labels c.installs_of.ensures in
    let author = c.author_of.ensures in
    all ∙ (λ i. flat_map (package_line_rules_in (c.in_ok-labels.ensures i) (processes i)) lines)
    ∙ lines_in name (option_copied c.author_of.result) (process_labels registry name) lines
    ∙ ap (λ author. flat_map (package_line_rules name author (process_labels registry name)) lines) author
