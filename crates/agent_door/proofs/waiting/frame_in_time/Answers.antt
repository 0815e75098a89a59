use Rattle.std.proofs.Common.{[], subst, sym, append-nil}
use Rattle.wire_reading.specs.Stream.{Feeding}
use Rattle.door_frames.specs.Hearing.{HearsMore, HandsOut}
use Rattle.door_frames.proofs.Carrying.{carried_same, carried_nothing, carried_more}
use Rattle.door_frames.proofs.Hearing.{hears_nothing, hands_out_more, takes}
use Rattle.agent_door.proofs.waiting.frame_in_time.Goals as goal

pub returns-in-Some-clause-taken : goal.returns-in-Some-clause-taken
returns-in-Some-clause-taken g c = (
  [],
  carried_same (g.L.Link.traffic c.args.link.now),
  takes c.args.feeder.now c.take.new.self c.in-Some.framed c.in-Some.ensures.taken c.take.ensures.rest,
)

pub returns-then-not-has_come-clause-taken : goal.returns-then-not-has_come-clause-taken
returns-then-not-has_come-clause-taken g c =
    let still = c.take.ensures.empty c.in_default.ensures.taken in (
      [],
      carried_nothing (g.L.Link.traffic c.args.link.now) (g.L.Link.traffic c.has_come.new.self) c.has_come.ensures.kept,
      subst (λ (feeder : Feeding). HearsMore [] c.args.feeder.now feeder) (sym still) (hears_nothing c.args.feeder.now),
    )

pub returns-in-Some-take-clause-taken : goal.returns-in-Some-take-clause-taken
returns-in-Some-take-clause-taken g c =
    let still = c.take.ensures.empty c.in_default.ensures.taken in
    let (bytes, carried, hears) = c.receive_more.ensures.heard in
    let heard : HearsMore bytes c.args.feeder.now c.receive_more.new.feeder =
    subst (λ (feeder : Feeding). HearsMore bytes feeder c.receive_more.new.feeder) still hears in
    let taken = takes c.receive_more.new.feeder c.take-2.new.self c.in-Some-take.framed c.in-Some-take.ensures.taken c.take-2.ensures.rest in (
      bytes,
      carried_more [] bytes [] [] (g.L.Link.traffic c.args.link.now) (g.L.Link.traffic c.has_come.new.self)
          (g.L.Link.traffic c.receive_more.new.link)
          (carried_nothing (g.L.Link.traffic c.args.link.now) (g.L.Link.traffic c.has_come.new.self) c.has_come.ensures.kept) carried,
      subst (λ list. HandsOut list c.in-Some-take.framed c.args.feeder.now c.take-2.new.self) (append-nil bytes)
          (hands_out_more bytes [] c.in-Some-take.framed c.args.feeder.now c.receive_more.new.feeder c.take-2.new.self heard taken),
    )
