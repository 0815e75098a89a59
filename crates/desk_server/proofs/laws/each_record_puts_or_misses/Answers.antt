use Rattle.desk_server.proofs.Adding.{adds_up}
use Rattle.desk_server.proofs.laws.each_record_puts_or_misses.Goals as goal

pub returns : goal.returns
returns c = adds_up
