use Rattle.std.proofs.Common.{arith, rules, ◌≡◌, ◌^◌, ◌<◌, ◌++◌, ◌∷◌, []}
use Rattle.wire_fields.specs.declared.messages.Message.TheVariants.{ListRow}
use Rattle.wire_reading.specs.Frame.{body, with_sequence}
use Rattle.wire_messages.proofs.Lending.{row_heard, behind_front}
use Rattle.wire_messages.proofs.lent_messages.encode_row_into.Goals as goal

pub returns-in-Err-clause-heard : goal.returns-in-Err-clause-heard
returns-in-Err-clause-heard c =
    let small : c.args.sequence < 2 ^ 16 = omega arith in
    row_heard c.args.sequence c.args.policy.now small c.policy_is_right.ensures

pub set_length-requires-clause-most : goal.set_length-requires-clause-most
set_length-requires-clause-most c =
    let small : c.args.sequence < 2 ^ 16 = omega arith in
    let framed = with_sequence c.args.sequence (ListRow c.args.policy.now) in
    let there : c.put_row_frame.new.out ≡ (0 ∷ 0 ∷ 0 ∷ 0 ∷ []) ++ body framed = search rules in
    let heard = row_heard c.args.sequence c.args.policy.now small c.policy_is_right.ensures in
    (behind_front c.put_row_frame.new.out (body framed) 1048576 there heard.short).1

pub returns-clause-heard : goal.returns-clause-heard
returns-clause-heard c =
    let small : c.args.sequence < 2 ^ 16 = omega arith in
    row_heard c.args.sequence c.args.policy.now small c.policy_is_right.ensures
