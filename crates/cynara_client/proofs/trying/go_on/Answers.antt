use Rattle.std.proofs.Common.{◌≡◌, ◌<◌, ◌≤◌, ◌-◌, None, Some, Err, refl, ap, subst, arith}
use Rattle.cynara_client.specs.parts.States.{seen}
use Rattle.cynara_client.proofs.Tries.{replied_goes, over_goes, again, next, next_due, rest_goes}
use Rattle.cynara_client.proofs.trying.go_on.Goals as goal

pub returns-in-Replied-clause-went : goal.returns-in-Replied-clause-went
returns-in-Replied-clause-went g c asking due some most =
    let once = c.in-Replied.ensures asking due in
    (replied_goes g.N.Link.Link.faults g.N.Link.Link.marks g.N.Link.Link.traffic g.N.Dial.faults g.N.Dial.dials g.N.Dial.given_back
    asking None c.args.machine.now c.try_once.new.machine c.args.dial.now once.mid c.try_once.new.dial some due
    c.in-Replied.link c.in-Replied.message c.answer_by.result c.answer_by.ensures once.came_of once.asks once.follows).0

pub returns-in-Replied-clause-rests : goal.returns-in-Replied-clause-rests
returns-in-Replied-clause-rests g c =
    let due = c.requires.due in
    let once = c.in-Replied.ensures due.0 due.1 in
    (replied_goes g.N.Link.Link.faults g.N.Link.Link.marks g.N.Link.Link.traffic g.N.Dial.faults g.N.Dial.dials g.N.Dial.given_back
    due.0 None c.args.machine.now c.try_once.new.machine c.args.dial.now once.mid c.try_once.new.dial due.2 due.1
    c.in-Replied.link c.in-Replied.message c.answer_by.result c.answer_by.ensures once.came_of once.asks once.follows).1

pub returns-in-Over-clause-went : goal.returns-in-Over-clause-went
returns-in-Over-clause-went g c asking due some most =
    let once = c.in-Over.ensures asking due in
    (over_goes g.N.Link.Link.faults g.N.Link.Link.marks g.N.Link.Link.traffic g.N.Dial.faults g.N.Dial.dials g.N.Dial.given_back
    asking None c.args.machine.now c.try_once.new.machine c.args.dial.now once.mid c.try_once.new.dial some due
    c.in-Over.fault (Err c.refusal_by.result) (ap (λ r. Err r) c.refusal_by.ensures) once.came_of once.asks once.follows).0

pub returns-in-Over-clause-rests : goal.returns-in-Over-clause-rests
returns-in-Over-clause-rests g c =
    let due = c.requires.due in
    let once = c.in-Over.ensures due.0 due.1 in
    (over_goes g.N.Link.Link.faults g.N.Link.Link.marks g.N.Link.Link.traffic g.N.Dial.faults g.N.Dial.dials g.N.Dial.given_back
    due.0 None c.args.machine.now c.try_once.new.machine c.args.dial.now once.mid c.try_once.new.dial due.2 due.1
    c.in-Over.fault (Err c.refusal_by.result) (ap (λ r. Err r) c.refusal_by.ensures) once.came_of once.asks once.follows).1

pub returns-in-Again-clause-went : goal.returns-in-Again-clause-went
returns-in-Again-clause-went g c asking due some most =
    let once = c.in-Again.ensures asking due in
    let more =
    again g.N.Link.Link.faults g.N.Link.Link.marks g.N.Link.Link.traffic g.N.Dial.faults g.N.Dial.dials g.N.Dial.given_back
    asking None c.args.machine.now c.try_once.new.machine c.args.dial.now once.mid c.try_once.new.dial some once.came_of once.asks once.follows in
    let nexts =
    next_due g.N.Link.Link.faults g.N.Link.Link.marks g.N.Link.Link.traffic g.N.Dial.faults g.N.Dial.dials g.N.Dial.given_back
    asking None c.args.machine.now c.try_once.new.machine c.args.dial.now once.mid c.try_once.new.dial some more in
    rest_goes g.N.Link.Link.faults g.N.Link.Link.marks g.N.Link.Link.traffic g.N.Dial.faults g.N.Dial.dials g.N.Dial.given_back
    asking None c.args.machine.now c.try_once.new.machine c.args.dial.now once.mid c.try_once.new.dial some more
    c.go_last.result.answer (seen c.go_last.new.dial c.go_last.result.link c.go_last.new.machine)
    (c.go_last.ensures.went
    (next g.N.Link.Link.faults g.N.Link.Link.marks g.N.Link.Link.traffic g.N.Dial.faults g.N.Dial.dials g.N.Dial.given_back
    asking None c.args.machine.now c.try_once.new.machine c.args.dial.now once.mid c.try_once.new.dial some more)
    nexts.0 nexts.1 (omega (arith, most)))

pub go_last-requires : goal.go_last-requires
go_last-requires g c =
    let due = c.requires.due in
    let once = c.in-Again.ensures due.0 due.1 in
    let more =
    again g.N.Link.Link.faults g.N.Link.Link.marks g.N.Link.Link.traffic g.N.Dial.faults g.N.Dial.dials g.N.Dial.given_back
    due.0 None c.args.machine.now c.try_once.new.machine c.args.dial.now once.mid c.try_once.new.dial due.2 once.came_of once.asks once.follows in
    let nexts =
    next_due g.N.Link.Link.faults g.N.Link.Link.marks g.N.Link.Link.traffic g.N.Dial.faults g.N.Dial.dials g.N.Dial.given_back
    due.0 None c.args.machine.now c.try_once.new.machine c.args.dial.now once.mid c.try_once.new.dial due.2 more in
    let most : (due.0).tries ≤ 2 = due.3 in
    record {
      due = (
        next g.N.Link.Link.faults g.N.Link.Link.marks g.N.Link.Link.traffic g.N.Dial.faults g.N.Dial.dials g.N.Dial.given_back
            due.0 None c.args.machine.now c.try_once.new.machine c.args.dial.now once.mid c.try_once.new.dial due.2 more,
        nexts.0,
        nexts.1,
        omega (arith, most),
      );
    }

pub returns-in-Replied-clause-unshared : goal.returns-in-Replied-clause-unshared
returns-in-Replied-clause-unshared g c x is =
    let due = c.requires.due in
    let once = c.in-Replied.ensures due.0 due.1 in
    let left =
    replied_goes g.N.Link.Link.faults g.N.Link.Link.marks g.N.Link.Link.traffic g.N.Dial.faults g.N.Dial.dials g.N.Dial.given_back
    due.0 None c.args.machine.now c.try_once.new.machine c.args.dial.now once.mid c.try_once.new.dial due.2 due.1
    c.in-Replied.link c.in-Replied.message c.answer_by.result c.answer_by.ensures once.came_of once.asks once.follows in
    let same : c.in-Replied.link ≡ x = cc in
    subst (λ link. (g.N.Link.Link.marks link).ends ≡ 0) same left.2
