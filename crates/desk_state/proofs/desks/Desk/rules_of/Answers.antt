use Rattle.std.proofs.Common.{◌∙◌}
use Rattle.rule_templates.specs.Expansion.{expansion}
use Rattle.desk_state.proofs.desks.Desk.rules_of.Goals as goal

pub returns : goal.returns
returns c =
    c.in_ok-rules.ensures ∙ (λ i. expansion (c.template.ensures.template i) (c.registry.ensures.registry i) c.args.package.now)
