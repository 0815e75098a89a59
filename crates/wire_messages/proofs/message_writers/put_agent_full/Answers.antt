use Rattle.std.proofs.Common.{◌++◌}
use Rattle.std.specs.Int.{w16, w32, w64, to_be_bytes}
use Rattle.wire_fields.proofs.Appending.{then_last}
use Rattle.wire_messages.proofs.message_writers.put_agent_full.Goals as goal

pub returns : goal.returns
returns c =
    let commit = to_be_bytes w64 c.args.commit in
    let kind = to_be_bytes w16 c.args.kind.0 in
    let most = to_be_bytes w32 c.args.most in
    then_last c.put4.result c.args.out.now c.put8.new.out c.put4.new.out commit (kind ++ most) c.in_ok-put8.ensures
    (then_last c.put4.result c.put8.new.out c.put_kind.new.out c.put4.new.out kind most c.in_ok-put_kind.ensures
    c.put4.ensures)
