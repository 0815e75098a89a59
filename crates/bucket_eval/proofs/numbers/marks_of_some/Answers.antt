use Rattle.bucket_eval.specs.parts.Marks.{sought_mark}
use Rattle.bucket_eval.proofs.Marks.{eight}
use Rattle.bucket_eval.proofs.numbers.marks_of_some.Goals as goal

pub returns-clause-each : goal.returns-clause-each
returns-clause-each c =
    eight (sought_mark c.args.numbers.now) _ _ _ _ _ _ _ _ c.sought_mark.ensures c.sought_mark-2.ensures
    c.sought_mark-3.ensures c.sought_mark-4.ensures c.sought_mark-5.ensures c.sought_mark-6.ensures
    c.sought_mark-7.ensures c.sought_mark-8.ensures
