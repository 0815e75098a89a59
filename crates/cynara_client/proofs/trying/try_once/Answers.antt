use Rattle.std.proofs.Common.{false, Option, None, Some, sym, subst}
use Rattle.cynara_client.specs.parts.States.{IsDue}
use Rattle.cynara_client.specs.parts.Trying.{TriesOnce}
use Rattle.client_core.specs.declared.steps.Fault.TheVariants as fault
use Rattle.cynara_client.specs.declared.trying.Tried.TheVariants as tried
use Rattle.cynara_client.proofs.Once.{once_there, once_dialled, undialled, undialled_memory}
use Rattle.cynara_client.proofs.trying.try_once.Goals as goal

pub returns-in-Some : goal.returns-in-Some
returns-in-Some g c asking due =
    let link = c.in-Some.link in
    subst (λ (entry : Option _). TriesOnce g.N.Link.Link.faults g.N.Link.Link.marks g.N.Link.Link.traffic g.N.Dial.faults g.N.Dial.dials g.N.Dial.given_back
    asking entry c.talk_over.result c.args.machine.now c.talk_over.new.machine c.args.dial.now c.talk_over.new.dial) (sym c.in-Some.is)
    (once_there g.N.Link.Link.faults g.N.Link.Link.marks g.N.Link.Link.traffic g.N.Dial.faults g.N.Dial.dials g.N.Dial.given_back
    asking link c.talk_over.result c.args.machine.now c.talk_over.new.machine c.args.dial.now c.talk_over.new.dial
    (c.talk_over.ensures asking false (subst (λ (entry : Option _). IsDue entry asking c.args.machine.now) c.in-Some.is due)))

pub returns-in-Ok : goal.returns-in-Ok
returns-in-Ok g c asking due =
    let here = subst (λ (entry : Option _). IsDue entry asking c.args.machine.now) c.in-None.is due in
    let anew = c.talk_anew.ensures asking here.0 in
    subst (λ (entry : Option _). TriesOnce g.N.Link.Link.faults g.N.Link.Link.marks g.N.Link.Link.traffic g.N.Dial.faults g.N.Dial.dials g.N.Dial.given_back
    asking entry c.talk_anew.result c.args.machine.now c.talk_anew.new.machine c.args.dial.now c.talk_anew.new.dial) (sym c.in-None.is)
    (once_dialled g.N.Link.Link.faults g.N.Link.Link.marks g.N.Link.Link.traffic g.N.Dial.faults g.N.Dial.dials g.N.Dial.given_back
    asking c.in-Ok.link c.talk_anew.result c.args.machine.now anew.mid c.talk_anew.new.machine c.args.dial.now c.dial.new.self
    c.talk_anew.new.dial anew.told c.in-Ok.ensures.unmarked c.in-Ok.ensures.fresh c.in-Ok.ensures.silent c.in-Ok.ensures.count
    c.dial.ensures.kept c.dial.ensures.dials anew.talks)

pub returns-in-Err-Failed : goal.returns-in-Err-Failed
returns-in-Err-Failed g c asking due =
    let here = subst (λ (entry : Option _). IsDue entry asking c.args.machine.now) c.in-None.is due in
    let count = rw c.in-Err-Failed.field-0-is at c.in-Err-Failed.ensures.count in
    subst (λ (entry : Option _). TriesOnce g.N.Link.Link.faults g.N.Link.Link.marks g.N.Link.Link.traffic g.N.Dial.faults g.N.Dial.dials g.N.Dial.given_back
    asking entry c.lose.result c.args.machine.now c.lose.new.machine c.args.dial.now c.dial.new.self) (sym c.in-None.is)
    (undialled g.N.Link.Link.faults g.N.Link.Link.marks g.N.Link.Link.traffic g.N.Dial.faults g.N.Dial.dials g.N.Dial.given_back
    asking c.args.machine.now c.lose.new.machine here.0 c.args.dial.now c.dial.new.self c.dial.ensures.kept c.dial.ensures.dials
    c.lose.result count (c.lose.ensures asking here.0))

pub returns-in-Err-Memory : goal.returns-in-Err-Memory
returns-in-Err-Memory g c asking due =
    let here = subst (λ (entry : Option _). IsDue entry asking c.args.machine.now) c.in-None.is due in
    let count = rw c.in-Err-Memory.field-0-is at c.in-Err-Memory.ensures.count in
    subst (λ (entry : Option _). TriesOnce g.N.Link.Link.faults g.N.Link.Link.marks g.N.Link.Link.traffic g.N.Dial.faults g.N.Dial.dials g.N.Dial.given_back
    asking entry (tried.Over (fault.Memory c.in-Err-Memory.error)) c.args.machine.now c.leave.new.self c.args.dial.now c.dial.new.self)
    (sym c.in-None.is)
    (undialled_memory g.N.Link.Link.faults g.N.Link.Link.marks g.N.Link.Link.traffic g.N.Dial.faults g.N.Dial.dials g.N.Dial.given_back
    asking c.args.machine.now c.leave.new.self here.0 c.args.dial.now c.dial.new.self c.dial.ensures.kept c.dial.ensures.dials
    c.in-Err-Memory.error count c.leave.ensures)
