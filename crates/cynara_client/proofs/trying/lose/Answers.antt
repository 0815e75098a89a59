use Rattle.cynara_client.proofs.Once.{loses_again, loses_over}
use Rattle.cynara_client.proofs.trying.lose.Goals as goal

pub returns-in-Dial : goal.returns-in-Dial
returns-in-Dial g c asking was = loses_again _ asking c.args.machine.now c.down.new.self was c.in-Dial.ensures

pub returns-in-Over : goal.returns-in-Over
returns-in-Over g c asking was = loses_over _ asking c.args.machine.now c.down.new.self was c.in-Over.fault c.in-Over.ensures
