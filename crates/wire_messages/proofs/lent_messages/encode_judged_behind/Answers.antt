use Rattle.std.proofs.Common.{arith, ◌^◌, ◌<◌}
use Rattle.bucket_eval.specs.Found.{answer_of}
use Rattle.bucket_eval.specs.Lent.{outcome_lent}
use Rattle.wire_messages.proofs.Lending.{verdict_heard}
use Rattle.wire_messages.proofs.lent_messages.encode_judged_behind.Goals as goal

pub returns-in-Ok-clause-heard : goal.returns-in-Ok-clause-heard
returns-in-Ok-clause-heard c =
    let small : c.args.sequence < 2 ^ 16 = omega arith in
    verdict_heard c.args.sequence
    (record { commit = c.args.commit; answer = answer_of (outcome_lent c.args.answer.now) })
    small c.answer_is_right.ensures

pub returns-in-Err-clause-heard : goal.returns-in-Err-clause-heard
returns-in-Err-clause-heard c =
    let small : c.args.sequence < 2 ^ 16 = omega arith in
    verdict_heard c.args.sequence
    (record { commit = c.args.commit; answer = answer_of (outcome_lent c.args.answer.now) })
    small c.answer_is_right.ensures
