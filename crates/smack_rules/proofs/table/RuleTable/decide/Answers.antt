use Rattle.std.proofs.Common.{◌≡◌, ap, ◌∙◌}
use Rattle.smack_rules.specs.Decision.{decision}
use Rattle.smack_rules.specs.Table.{granted}
use Rattle.smack_rules.proofs.BringUp.{decision-tried}
use Rattle.smack_rules.proofs.table.RuleTable.decide.Goals as goal

pub returns-clause-bring_up : goal.returns-clause-bring_up
returns-clause-bring_up c =
    let s = c.args.subject.now in
    let o = c.args.object.now in
    let grants : c.modes_at-granted.result ≡ granted c.args.self.now s o =
    c.modes_at-granted.ensures ∙ ap (λ table. granted table s o) (c.as_slice.ensures.value ∙ c.self.view_is) in
    λ tried. c.decide.ensures.decided ∙ ap (decision s o c.args.asked) grants ∙ decision-tried s o c.args.asked _ tried c.requires
