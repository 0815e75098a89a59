use Rattle.std.proofs.Common.{List, sym, subst}
use Rattle.desk_keeper.specs.Keeper.{disk_of}
use Rattle.wire_fields.specs.declared.messages.Message.{Message}
use Rattle.admin_door.specs.Side.{side_of}
use Rattle.admin_door.specs.Answering.{Answers}
use Rattle.admin_door.specs.Adding.{Acknowledges}
use Rattle.admin_door.proofs.admin_loops.answer_frame.Goals as goal

pub send_due-requires : goal.send_due-requires
send_due-requires g c = record {
  due = record {
    told = g.D.Disk.state (disk_of c.args.keeper.now);
    old = side_of g.D.Disk.faults c.args.keeper.now (g.P.KeptPublisher.states c.args.publisher.now) (g.A.Hall.tally c.args.hall.now) (g.A.Hall.calls c.args.hall.now);
    answered = subst (λ (list : List Message). Answers (g.D.Disk.state (disk_of c.args.keeper.now)) c.args.framed.now.message
        (side_of g.D.Disk.faults c.args.keeper.now (g.P.KeptPublisher.states c.args.publisher.now) (g.A.Hall.tally c.args.hall.now) (g.A.Hall.calls c.args.hall.now))
        (side_of g.D.Disk.faults c.answer_command.new.keeper (g.P.KeptPublisher.states c.answer_command.new.publisher) (g.A.Hall.tally c.answer_command.new.hall)
        (g.A.Hall.calls c.answer_command.new.hall)) list) (sym c.deref.ensures.value) c.in-Ok.ensures.answered;
    acknowledged = subst (λ (list : List Message). Acknowledges c.args.framed.now.message
        (side_of g.D.Disk.faults c.answer_command.new.keeper (g.P.KeptPublisher.states c.answer_command.new.publisher) (g.A.Hall.tally c.answer_command.new.hall)
        (g.A.Hall.calls c.answer_command.new.hall)) c.answer_command.new.hangs list) (sym c.deref.ensures.value)
        c.in-Ok.ensures.acknowledged;
  };
}
