use Rattle.std.proofs.Common.{subst}
use Rattle.answer_cache.specs.Cache.{asked_in}
use Rattle.cynara_client.specs.State.{Kept, with_dial}
use Rattle.cynara_client.specs.Checking.{Checks}
use Rattle.client_runs.proofs.Asking.{asks-once}
use Rattle.client_runs.proofs.check_runs.ask_by.Goals as goal

pub returns : goal.returns
returns g c =
    let asked = asked_in c.args.session.now c.args.question.now in
    let mid = with_dial c.check-answer.new.dial c.check-answer.new.client in
    let last = with_dial c.leave.new.dial c.leave.new.self in
    asks-once g.N.Link.Link.faults g.N.Link.Link.marks g.N.Link.Link.traffic g.N.Link.Link.content g.N.Dial.faults g.N.Dial.dials
    g.N.Dial.given_back asked c.args.simple c.check-answer.result c.args.dial.now mid last c.leave.ensures
    (subst (λ (kept : Kept _). Checks g.N.Link.Link.faults g.N.Link.Link.marks g.N.Link.Link.traffic g.N.Link.Link.content g.N.Dial.faults
    g.N.Dial.dials g.N.Dial.given_back asked c.args.simple c.check-answer.result (with_dial c.args.dial.now kept) mid) c.requires
    c.check-answer.ensures)
