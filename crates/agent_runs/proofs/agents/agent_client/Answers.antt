use Rattle.std.proofs.Common.{◌<◌, ℕ, [], sym, subst, arith, rules}
use Rattle.run_endings.specs.Outside.{sink_seen}
use Rattle.agent_runs.specs.LinkSeen.{link_seen}
use Rattle.agent_runs.proofs.Making.{wants_some}
use Rattle.agent_runs.proofs.Talking.{begins, served-unsent, ready, goes-on, served-over, served-ended, served-lost}
use Rattle.agent_runs.proofs.Following.{follows-on, follows-out}
use Rattle.agent_runs.proofs.agents.agent_client.Goals as goal

pub returns-in-Err : goal.returns-in-Err
returns-in-Err g c =
    served-unsent c.args.kind c.args.allowed (link_seen g.L.Link c.args.link.now) (link_seen g.L.Link c.send.new.link)
    (sink_seen g.K.Sink.taken g.K.Sink.faults c.args.sink.now) c.new-machine.result c.dialled-step.new.self c.dialled-step.result
    c.new-machine.ensures c.dialled-step.ensures c.in-Err.ending c.in-Err.ensures

pub pieces-init : goal.pieces-init
pieces-init g c = (
  tt,
  tt,
  (
    [],
    begins c.args.kind c.args.allowed (link_seen g.L.Link c.args.link.now) (link_seen g.L.Link c.send.new.link)
        (sink_seen g.K.Sink.taken g.K.Sink.faults c.args.sink.now) c.new-machine.result c.dialled-step.new.self c.dialled-step.result
        c.new-machine.ensures c.dialled-step.ensures tt c.in_default.ensures,
  ),
)

pub take_piece-requires-clause-ready : goal.take_piece-requires-clause-ready
take_piece-requires-clause-ready g c = ready c.pieces.invariant.2.1

pub take_piece-requires-clause-some : goal.take_piece-requires-clause-some
take_piece-requires-clause-some g c =
    let some = wants_some c.pieces.machine.stage (ready c.pieces.invariant.2.1) in
    let wanted : 0 < c.wanted.result = subst (λ (n : ℕ). 0 < n) (sym c.wanted.ensures) some in
    let least : 0 < c.min-want.result = omega (arith, wanted, c.min-want.ensures) in
    first_of (search (rules, least), grind (arith, rules, least))

pub pieces-preserved-in-More : goal.pieces-preserved-in-More
pieces-preserved-in-More g c = (tt, tt, (c.pieces.invariant.2.0, goes-on c.pieces.invariant.2.1 c.in-More.ensures))

pub pieces-preserved : goal.pieces-preserved
pieces-preserved g c = (
  tt,
  tt,
  follows-on c.pieces.invariant.2.1 c.in-Whole.ensures c.follow-followed.ensures c.in_default-followed.field-0
      c.in_default-followed.is,
)

pub returns-in-Err-followed : goal.returns-in-Err-followed
returns-in-Err-followed g c =
    follows-out c.pieces.invariant.2.1 c.in-Whole.ensures c.follow-followed.ensures c.in-Err-followed.ending c.in-Err-followed.is

pub returns-in-Over : goal.returns-in-Over
returns-in-Over g c =
    served-over c.pieces.invariant.2.1 c.in-Over.ensures c.end_of.ensures.unwritten c.end_of.ensures.ending

pub returns-in-Ended : goal.returns-in-Ended
returns-in-Ended g c =
    served-ended c.pieces.invariant.2.1 c.in-Ended.ensures c.end_behind.ensures.unwritten c.end_behind.ensures.ending

pub returns-in-Lost : goal.returns-in-Lost
returns-in-Lost g c = served-lost c.pieces.invariant.2.1 c.in-Lost.ensures
