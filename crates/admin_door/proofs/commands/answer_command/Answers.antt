use Rattle.desk_keeper.specs.Keeper.{disk_of}
use Rattle.wire_messages.specs.Commands.{command_of}
use Rattle.admin_door.specs.Side.{side_of}
use Rattle.admin_door.proofs.Adding.{answers-two, refuses-two, answers-acknowledged}
use Rattle.admin_door.proofs.Hanging.{answers-hung}
use Rattle.admin_door.proofs.commands.answer_command.Goals as goal

pub returns-in-Ok-clause-adds : goal.returns-in-Ok-clause-adds
returns-in-Ok-clause-adds g c =
    let old = side_of g.D.Disk.faults c.args.keeper.now (g.P.KeptPublisher.states c.args.publisher.now) (g.A.Hall.tally c.args.hall.now)
    (g.A.Hall.calls c.args.hall.now) in
    let now = side_of g.D.Disk.faults c.answer.new.keeper (g.P.KeptPublisher.states c.answer.new.publisher) (g.A.Hall.tally c.answer.new.hall)
    (g.A.Hall.calls c.answer.new.hall) in
    answers-two (g.D.Disk.state (disk_of c.args.keeper.now)) (command_of c.args.message.now) c.args.message.now old now
    c.in-Ok.replies.items c.in-Ok.ensures.answered

pub returns-in-Ok-clause-acknowledged : goal.returns-in-Ok-clause-acknowledged
returns-in-Ok-clause-acknowledged g c command commit erased some is =
    let old = side_of g.D.Disk.faults c.args.keeper.now (g.P.KeptPublisher.states c.args.publisher.now) (g.A.Hall.tally c.args.hall.now)
    (g.A.Hall.calls c.args.hall.now) in
    let now = side_of g.D.Disk.faults c.answer.new.keeper (g.P.KeptPublisher.states c.answer.new.publisher) (g.A.Hall.tally c.answer.new.hall)
    (g.A.Hall.calls c.answer.new.hall) in
    let acknowledged = answers-acknowledged (g.D.Disk.state (disk_of c.args.keeper.now)) (command_of c.args.message.now)
    c.args.message.now old now c.in-Ok.replies.items command commit erased c.in-Ok.ensures.answered some is in (
      acknowledged,
      answers-hung (g.D.Disk.state (disk_of c.args.keeper.now)) (command_of c.args.message.now) c.args.message.now old now
          c.in-Ok.replies.items command commit erased c.answer.new.hangs c.in-Ok.ensures.answered some is acknowledged
          c.answer.ensures.hangs.hung,
    )

pub returns-in-Err-clause-adds : goal.returns-in-Err-clause-adds
returns-in-Err-clause-adds g c =
    let old = side_of g.D.Disk.faults c.args.keeper.now (g.P.KeptPublisher.states c.args.publisher.now) (g.A.Hall.tally c.args.hall.now)
    (g.A.Hall.calls c.args.hall.now) in
    let now = side_of g.D.Disk.faults c.answer.new.keeper (g.P.KeptPublisher.states c.answer.new.publisher) (g.A.Hall.tally c.answer.new.hall)
    (g.A.Hall.calls c.answer.new.hall) in
    refuses-two (g.D.Disk.state (disk_of c.args.keeper.now)) (command_of c.args.message.now) old now c.in-Err.ensures.answered.1
