use Rattle.std.proofs.Common.{Some, ap}
use Rattle.bucket_eval.specs.parts.Marks.{all_of, sought_mark}
use Rattle.bucket_eval.proofs.Marks.{eight}
use Rattle.bucket_eval.proofs.numbers.marks_of_all.Goals as goal

pub returns-clause-each : goal.returns-clause-each
returns-clause-each c =
    eight (sought_mark (all_of c.args.wildcard c.args.client c.args.user c.args.privilege)) _ _ _ _ _ _ _ _
    (ap Some c.joined.ensures) (ap Some c.joined-2.ensures) (ap Some c.joined-3.ensures) (ap Some c.joined-4.ensures)
    (ap Some c.joined-5.ensures) (ap Some c.joined-6.ensures) (ap Some c.joined-7.ensures) (ap Some c.joined-8.ensures)
