use Rattle.std.proofs.Common.{◌∙◌, length, take, arith}
use Rattle.std.proofs.lemmas.List.{length-take-le}
use Rattle.cases_outside.proofs.Marks.{some_room}
use Rattle.cases_outside.proofs.cut_links.CutLinkLink.receive.Goals as goal

pub returns-clause-marks : goal.returns-clause-marks
returns-clause-marks c =
    let fits = length-take-le c.most_at-size.result c.args.into.now c.most_at-size.ensures in
    c.receive-2.ensures.marks
    ∙ some_room c.receive-2.result (length (take c.most_at-size.result c.args.into.now)) (length c.args.into.now) c.args.self.now.link.tally.marks
    (omega (arith, fits, c.if-size-eq0.false)) (omega (arith, c.if-size-eq0.false, c.most_at-size.ensures))
