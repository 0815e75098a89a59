use Rattle.std.proofs.Common.{◌∙◌}
use Rattle.smack_rules.proofs.BringUp.{decision-tried}
use Rattle.smack_rules.proofs.decision.decide.Goals as goal

pub returns-clause-bring_up : goal.returns-clause-bring_up
returns-clause-bring_up c =
    λ tried. c.first_case.ensures
    ∙ decision-tried c.args.subject.now c.args.object.now c.args.asked c.args.granted tried c.requires
