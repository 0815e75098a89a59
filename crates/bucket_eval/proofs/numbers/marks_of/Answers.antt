use Rattle.std.proofs.Common.{◌%◌, ◌==◌, Some, cond, nat_le, sym, ap, ◌∙◌}
use Rattle.bucket_eval.specs.parts.Numbers.{join}
use Rattle.bucket_eval.proofs.numbers.marks_of.Goals as goal

pub returns-clause-each : goal.returns-clause-each
returns-clause-each c = λ shape less.
    c.marks_of_all.ensures.each shape less
    ∙ ap Some
    (λ i. join (cond (nat_le 4 shape) (sym c.in-Some.is i) (sym c.in-Some-client.is i))
    (cond (nat_le 2 (shape % 4)) (sym c.in-Some.is i) (sym c.in-Some-user.is i))
    (cond (shape % 2 == 1) (sym c.in-Some.is i) (sym c.in-Some-privilege.is i)))
