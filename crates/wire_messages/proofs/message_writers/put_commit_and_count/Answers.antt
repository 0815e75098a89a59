use Rattle.std.specs.Int.{w32, w64, to_be_bytes}
use Rattle.wire_fields.proofs.Appending.{then_last}
use Rattle.wire_messages.proofs.message_writers.put_commit_and_count.Goals as goal

pub returns : goal.returns
returns c =
    then_last c.put4.result c.args.out.now c.put8.new.out c.put4.new.out (to_be_bytes w64 c.args.commit)
    (to_be_bytes w32 c.args.count) c.in_ok-put8.ensures c.put4.ensures
