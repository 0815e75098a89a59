use Rattle.std.proofs.Common.{◌∙◌, Option, None, sym, subst}
use Rattle.desk_ports.specs.Moments.{LeavesOnly}
use Rattle.desk_state.specs.declared.commands.Command.{Command}
use Rattle.wire_messages.specs.Commands.{command_of}
use Rattle.desk_keeper.specs.Keeper.{disk_of}
use Rattle.admin_door.specs.Side.{side_of}
use Rattle.admin_door.proofs.Answering.{either-way, answers-other, refuses-by}
use Rattle.admin_door.specs.Stops.{StandsBy}
use Rattle.admin_door.proofs.ServiceTelling.{asks_nothing}
use Rattle.admin_door.proofs.Stopping.{rests-as, stands-by}
use Rattle.admin_door.proofs.commands.answer.Goals as goal

pub returns-in-Ok-None-clause-answered : goal.returns-in-Ok-None-clause-answered
returns-in-Ok-None-clause-answered g c =
    let told = g.D.Disk.state (disk_of c.args.keeper.now) in
    let asked = c.args.message.now in
    let old = side_of g.D.Disk.faults c.args.keeper.now (g.P.KeptPublisher.states c.args.publisher.now) (g.A.Hall.tally c.args.hall.now)
    (g.A.Hall.calls c.args.hall.now) in
    let now = side_of g.D.Disk.faults c.args.keeper.now (g.P.KeptPublisher.states c.args.publisher.now) (g.A.Hall.tally c.answer_question.new.hall)
    (g.A.Hall.calls c.answer_question.new.hall) in
    let found = c.in-Ok-None.field-0 in
    either-way c.answer_question.result _ _ _ _
    (λ replies answers. answers-other told asked found old now replies.items c.in-Ok-None.ensures c.in-Ok-None.field-0-is answers)
    (λ ended is. (is.0, refuses-by told asked found None old now c.in-Ok-None.ensures c.in-Ok-None.field-0-is is.1))
    (c.answer_question.ensures.answered (g.P.KeptPublisher.states c.args.publisher.now))

pub returns-in-Ok-Some-clause-stops : goal.returns-in-Ok-Some-clause-stops
returns-in-Ok-Some-clause-stops g c before told known =
    subst (λ (found : Option Command). LeavesOnly g.D.Disk.moment g.D.Disk.left_since (disk_of c.args.keeper.now)
    (disk_of c.obey.new.keeper) (StandsBy found before))
    (sym c.in-Ok-Some.field-0-is ∙ c.in-Ok-Some.ensures) (c.obey.ensures.stops before told known)

pub returns-in-Ok-None-clause-stops : goal.returns-in-Ok-None-clause-stops
returns-in-Ok-None-clause-stops g c before told known =
    let disk = disk_of c.args.keeper.now in
    stands-by g.D.Disk.moment g.D.Disk.left_since disk disk (command_of c.args.message.now) before
    (rests-as g.D.Disk.moment g.D.Disk.left_since disk before (λ left was. g.met.D.Disk.only_now disk left before told was))

pub returns-in-Err-clause-stops : goal.returns-in-Err-clause-stops
returns-in-Err-clause-stops g c before told known =
    let disk = disk_of c.args.keeper.now in
    stands-by g.D.Disk.moment g.D.Disk.left_since disk disk (command_of c.args.message.now) before
    (rests-as g.D.Disk.moment g.D.Disk.left_since disk before (λ left was. g.met.D.Disk.only_now disk left before told was))

-- who sends a command asks nothing of the service
pub returns-in-Ok-Some-clause-service : goal.returns-in-Ok-Some-clause-service
returns-in-Ok-Some-clause-service g c =
    asks_nothing (λ replies. replies.items) c.args.message.now (g.A.Hall.told c.args.hall.now) c.in-Ok-Some.command c.obey.result
    (sym (sym c.in-Ok-Some.field-0-is ∙ c.in-Ok-Some.ensures))
