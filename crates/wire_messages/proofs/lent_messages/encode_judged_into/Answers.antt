use Rattle.std.proofs.Common.{arith, rules, ◌≡◌, ◌^◌, ◌<◌, ◌++◌, ◌∷◌, []}
use Rattle.bucket_eval.specs.Found.{answer_of}
use Rattle.bucket_eval.specs.Lent.{outcome_lent}
use Rattle.wire_reading.specs.Frame.{body, with_sequence}
use Rattle.wire_reading.specs.Lent.{judged}
use Rattle.wire_messages.proofs.Lending.{verdict_heard, behind_front}
use Rattle.wire_messages.proofs.lent_messages.encode_judged_into.Goals as goal

pub returns-in-Err-clause-heard : goal.returns-in-Err-clause-heard
returns-in-Err-clause-heard c =
    let small : c.args.sequence < 2 ^ 16 = omega arith in
    verdict_heard c.args.sequence
    (record { commit = c.args.commit; answer = answer_of (outcome_lent c.args.answer.now) }) small
    c.answer_is_right.ensures

pub set_length-requires-clause-most : goal.set_length-requires-clause-most
set_length-requires-clause-most c =
    let small : c.args.sequence < 2 ^ 16 = omega arith in
    let framed = with_sequence c.args.sequence (judged c.args.commit c.args.answer.now) in
    let there : c.put_judged_frame.new.out ≡ (0 ∷ 0 ∷ 0 ∷ 0 ∷ []) ++ body framed = search rules in
    let heard = verdict_heard c.args.sequence
    (record { commit = c.args.commit; answer = answer_of (outcome_lent c.args.answer.now) }) small
    c.answer_is_right.ensures in
    (behind_front c.put_judged_frame.new.out (body framed) 1048576 there heard.short).1

pub returns-clause-heard : goal.returns-clause-heard
returns-clause-heard c =
    let small : c.args.sequence < 2 ^ 16 = omega arith in
    verdict_heard c.args.sequence
    (record { commit = c.args.commit; answer = answer_of (outcome_lent c.args.answer.now) }) small
    c.answer_is_right.ensures
