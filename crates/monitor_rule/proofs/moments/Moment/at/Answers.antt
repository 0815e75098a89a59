use Rattle.std.proofs.Common.{rules, ◌≡◌, ◌*◌, pos}
use Rattle.jiff_core.specs.DateTime.{civil_nanos}
use Rattle.monitor_rule.proofs.moments.Moment.at.Goals as goal

pub returns-in-Ok : goal.returns-in-Ok
returns-in-Ok c =
    let shown : civil_nanos c.in-Ok.shown ≡ pos (c.args.seconds * 1000000000) = search rules in
    (c.in-Ok.shown, shown, search rules)
