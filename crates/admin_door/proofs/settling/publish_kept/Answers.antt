use Rattle.std.proofs.Common.{◌<◌, ◌∙◌, List, ap, arith}
use Rattle.std.proofs.lemmas.Bool.Decides.{nat_tests}
use Rattle.desk_state.specs.DeskState.{DeskState}
use Rattle.live_desk.specs.History.{last_commit}
use Rattle.admin_door.specs.Side.{side_of, with_shown}
use Rattle.admin_door.proofs.Showing.{shown-newer}
use Rattle.admin_door.proofs.settling.publish_kept.Goals as goal

pub show-requires-clause-newer : goal.show-requires-clause-newer
show-requires-clause-newer g c =
    let kept = c.commit-2.ensures.commit ∙ ap (λ (desk : DeskState). desk.commit) c.desk.ensures in
    let still = ap (λ (published : List DeskState). last_commit 0 published) c.prepare.ensures.kept in
    grind (arith, c.if-commit.false, c.commit.ensures.commit, kept, still, nat_tests)

pub returns-in-Ok-show-clause-shown : goal.returns-in-Ok-show-clause-shown
returns-in-Ok-show-clause-shown g c =
    let desk = c.args.keeper.now.desk in
    let old = side_of g.D.Disk.faults c.args.keeper.now (g.P.KeptPublisher.states c.args.publisher.now) (g.A.Hall.tally c.args.hall.now)
    (g.A.Hall.calls c.args.hall.now) in
    let kept = c.commit-2.ensures.commit ∙ ap (λ (desk : DeskState). desk.commit) c.desk.ensures in
    let newer : last_commit 0 (g.P.KeptPublisher.states c.args.publisher.now) < desk.commit =
    grind (arith, c.if-commit.false, c.commit.ensures.commit, kept, nat_tests) in
    c.in-Ok-show.ensures.shown
    ∙ (ap (λ (published : List DeskState). with_shown desk
    (side_of g.D.Disk.faults c.args.keeper.now published (g.A.Hall.tally c.args.hall.now) (g.A.Hall.calls c.args.hall.now)))
    c.prepare.ensures.kept
    ∙ shown-newer old newer)
