use Rattle.rule_templates.proofs.ByKind.{labels-by-kind}
use Rattle.rule_templates.proofs.expansion.expand.Goals as goal

pub returns-clause-processes : goal.returns-clause-processes
returns-clause-processes c =
    labels-by-kind c.args.registry.now c.args.package.now c.installs-installs.ensures.registry c.requires
