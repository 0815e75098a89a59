use Rattle.std.proofs.Common.{rules, Ok}
use Rattle.wire_reading.proofs.FrameLaws.{is_read_again}
use Rattle.wire_messages.proofs.encoding.encode.Goals as goal

pub returns-clause-again : goal.returns-clause-again
returns-clause-again c = is_read_again c.args.framed.now (Ok c.encode_into.new.frame) (search rules)
