use Rattle.std.proofs.Common.{◌++◌}
use Rattle.std.specs.Int.{w16, w32, w64, to_be_bytes}
use Rattle.wire_fields.specs.Format.{flag}
use Rattle.wire_fields.proofs.Appending.{then_last}
use Rattle.wire_messages.proofs.message_writers.put_from_agent.Goals as goal

pub returns : goal.returns
returns c =
    let commit = to_be_bytes w64 c.args.commit in
    let kind = to_be_bytes w16 c.args.kind.0 in
    let number = to_be_bytes w32 c.args.number in
    let allowed = flag.spelled c.args.allowed in
    let out = c.args.out.now in
    let one = c.put8.new.out in
    let two = c.put_kind.new.out in
    let three = c.put4.new.out in
    let all = c.put_flag.new.out in
    then_last c.put_flag.result out one all commit (kind ++ (number ++ allowed)) c.in_ok-put8.ensures
    (then_last c.put_flag.result one two all kind (number ++ allowed) c.in_ok-put_kind.ensures
    (then_last c.put_flag.result two three all number allowed c.in_ok-put4.ensures c.put_flag.ensures))
