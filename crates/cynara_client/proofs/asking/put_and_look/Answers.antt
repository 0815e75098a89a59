use Rattle.cynara_client.proofs.Putting.{puts_look, puts_over}
use Rattle.cynara_client.proofs.asking.put_and_look.Goals as goal

pub returns-in-Look : goal.returns-in-Look
returns-in-Look c =
    puts_look c.args.session.now c.args.question.now c.args.simple c.args.is_up c.looked.result c.args.machine.now c.put.new.machine
    c.looked.new.self c.requires c.in-Look.ensures c.looked.ensures

pub returns-in-Over : goal.returns-in-Over
returns-in-Over c =
    puts_over c.args.session.now c.args.question.now c.args.simple c.args.is_up c.in-Over.fault c.args.machine.now c.put.new.machine
    c.requires c.in-Over.ensures
