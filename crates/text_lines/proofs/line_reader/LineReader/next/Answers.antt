use Rattle.text_lines.proofs.Handing.{HandsOutNext-gathered}
use Rattle.text_lines.proofs.line_reader.LineReader.next.Goals as goal

pub returns-clause-next : goal.returns-clause-next
returns-clause-next g c = HandsOutNext-gathered c.hand_out.new.self c.hand_out.result c.in_ok-gather.ensures.gathered.0 c.hand_out.ensures
