use Rattle.std.proofs.Common.{◌≡◌, ◌<◌, ◌≤◌, None, Some, Err, refl, ap, arith}
use Rattle.client_core.specs.Asking as does
use Rattle.client_core.specs.declared.stages.Asking.{Asking}
use Rattle.cynara_client.specs.parts.States.{seen}
use Rattle.cynara_client.proofs.Putting.{up_sends, send_due, sent_serves, up_over}
use Rattle.cynara_client.proofs.asking.ask_over.Goals as goal

pub returns-in-Send-clause-asked : goal.returns-in-Send-clause-asked
returns-in-Send-clause-asked g c =
    let asking : Asking = does.first_try c.args.session.now c.args.question.now c.args.simple in
    let spells =
    up_sends g.N.Link.Link.faults g.N.Link.Link.marks g.N.Link.Link.traffic g.N.Dial.faults g.N.Dial.dials g.N.Dial.given_back
    c.args.session.now c.args.question.now c.args.simple c.args.machine.now c.put_and_look.new.machine c.requires.missed c.in-Send.ensures in
    sent_serves g.N.Link.Link.faults g.N.Link.Link.marks g.N.Link.Link.traffic g.N.Dial.faults g.N.Dial.dials g.N.Dial.given_back
    asking refl c.args.machine.now c.put_and_look.new.machine c.args.link spells c.go.result.answer c.args.dial.now
    (seen c.go.new.dial c.go.result.link c.go.new.machine)
    (c.go.ensures.went asking
    (send_due g.N.Link.Link.faults g.N.Link.Link.marks g.N.Link.Link.traffic g.N.Dial.faults g.N.Dial.dials g.N.Dial.given_back
    asking refl c.args.machine.now c.put_and_look.new.machine c.args.link spells c.requires.linked.1) (omega arith) (omega arith))

pub returns-in-Over-clause-asked : goal.returns-in-Over-clause-asked
returns-in-Over-clause-asked g c =
    (up_over g.N.Link.Link.faults g.N.Link.Link.marks g.N.Link.Link.traffic g.N.Dial.faults g.N.Dial.dials g.N.Dial.given_back
    c.args.session.now c.args.question.now c.args.simple c.in-Over.fault c.args.link c.args.machine.now c.put_and_look.new.machine c.requires.linked c.requires.missed
    c.in-Over.ensures (Err c.refusal_by.result) (ap (λ r. Err r) c.refusal_by.ensures) c.args.dial.now c.give_back.new.self
    (record { given = c.give_back.ensures.given; dialled = c.give_back.ensures.dials; counted = c.give_back.ensures.count })).0

pub returns-in-Over-clause-rests : goal.returns-in-Over-clause-rests
returns-in-Over-clause-rests g c =
    (up_over g.N.Link.Link.faults g.N.Link.Link.marks g.N.Link.Link.traffic g.N.Dial.faults g.N.Dial.dials g.N.Dial.given_back
    c.args.session.now c.args.question.now c.args.simple c.in-Over.fault c.args.link c.args.machine.now c.put_and_look.new.machine c.requires.linked c.requires.missed
    c.in-Over.ensures (Err c.refusal_by.result) (ap (λ r. Err r) c.refusal_by.ensures) c.args.dial.now c.give_back.new.self
    (record { given = c.give_back.ensures.given; dialled = c.give_back.ensures.dials; counted = c.give_back.ensures.count })).1

pub go-requires-clause-due : goal.go-requires-clause-due
go-requires-clause-due g c =
    let asking : Asking = does.first_try c.args.session.now c.args.question.now c.args.simple in
    let spells =
    up_sends g.N.Link.Link.faults g.N.Link.Link.marks g.N.Link.Link.traffic g.N.Dial.faults g.N.Dial.dials g.N.Dial.given_back
    c.args.session.now c.args.question.now c.args.simple c.args.machine.now c.put_and_look.new.machine c.requires.missed c.in-Send.ensures in
    let due =
    send_due g.N.Link.Link.faults g.N.Link.Link.marks g.N.Link.Link.traffic g.N.Dial.faults g.N.Dial.dials g.N.Dial.given_back
    asking refl c.args.machine.now c.put_and_look.new.machine c.args.link spells c.requires.linked.1 in
    (asking, due, omega arith, omega arith)
