use Rattle.std.proofs.Common.{◌≡◌, ◌<◌, ◌≤◌, None, Some, Err, refl, ap, arith}
use Rattle.client_core.specs.Client.{with_tries}
use Rattle.client_core.specs.Asking as does
use Rattle.client_core.specs.declared.stages.Asking.{Asking}
use Rattle.cynara_client.specs.parts.States.{seen}
use Rattle.cynara_client.proofs.Putting.{puts_dial, dial_due, dialled_serves, anew_over}
use Rattle.cynara_client.proofs.asking.ask_anew.Goals as goal

pub returns-in-Dial-clause-asked : goal.returns-in-Dial-clause-asked
returns-in-Dial-clause-asked g c =
    let asking : Asking = does.first_try c.args.session.now c.args.question.now c.args.simple in
    let dials = puts_dial c.args.session.now c.args.question.now c.args.simple c.args.machine.now c.put.new.machine c.requires c.in-Dial.ensures in
    dialled_serves g.N.Link.Link.faults g.N.Link.Link.marks g.N.Link.Link.traffic g.N.Dial.faults g.N.Dial.dials g.N.Dial.given_back
    asking refl c.args.machine.now c.put.new.machine dials c.go.result.answer c.args.dial.now
    (seen c.go.new.dial c.go.result.link c.go.new.machine)
    (c.go.ensures.went asking
    (dial_due g.N.Link.Link.faults g.N.Link.Link.marks g.N.Link.Link.traffic g.N.Dial.faults g.N.Dial.dials g.N.Dial.given_back
    asking refl c.args.machine.now c.put.new.machine dials) (omega arith) (omega arith))

pub returns-in-Over-clause-asked : goal.returns-in-Over-clause-asked
returns-in-Over-clause-asked g c =
    (anew_over g.N.Link.Link.faults g.N.Link.Link.marks g.N.Link.Link.traffic g.N.Dial.faults g.N.Dial.dials g.N.Dial.given_back
    c.args.session.now c.args.question.now c.args.simple c.in-Over.fault c.args.machine.now c.put.new.machine c.requires c.in-Over.ensures (Err c.refusal_by.result)
    (ap (λ r. Err r) c.refusal_by.ensures) c.args.dial.now).0

pub returns-in-Over-clause-rests : goal.returns-in-Over-clause-rests
returns-in-Over-clause-rests g c =
    (anew_over g.N.Link.Link.faults g.N.Link.Link.marks g.N.Link.Link.traffic g.N.Dial.faults g.N.Dial.dials g.N.Dial.given_back
    c.args.session.now c.args.question.now c.args.simple c.in-Over.fault c.args.machine.now c.put.new.machine c.requires c.in-Over.ensures (Err c.refusal_by.result)
    (ap (λ r. Err r) c.refusal_by.ensures) c.args.dial.now).1
