use Rattle.std.proofs.Common.{refl}
use Rattle.local_runs.proofs.Stepping.{answers-told}
use Rattle.local_runs.proofs.local_script.LocalScript.change.Goals as goal

pub returns-in_ok-share-in-Share-clause-step : goal.returns-in_ok-share-in-Share-clause-step
returns-in_ok-share-in-Share-clause-step g c =
    answers-told (g.K.Sink.taken c.args.sink.now) c.args.self.now.answers c.share.new.self.answers c.args.keeper.now.desk
    c.desk.result.now c.args.self.now.shares c.share.new.self.shares c.args.step.now _ c.desk.ensures c.in-Share.is
    c.in_ok-share-in-Share.ensures.answer refl c.in_ok-share-in-Share.ensures.shares

pub returns-in_ok-unshare-in-Unshare-clause-step : goal.returns-in_ok-unshare-in-Unshare-clause-step
returns-in_ok-unshare-in-Unshare-clause-step g c =
    answers-told (g.K.Sink.taken c.args.sink.now) c.args.self.now.answers c.unshare.new.self.answers c.args.keeper.now.desk
    c.desk-in-Unshare.result.now c.args.self.now.shares c.unshare.new.self.shares c.args.step.now _ c.desk-in-Unshare.ensures
    c.in-Unshare.is c.in_ok-unshare-in-Unshare.ensures.answer refl c.in_ok-unshare-in-Unshare.ensures.shares
