use Rattle.std.proofs.Common.{◌≡◌, ◌∙◌, ℕ, List, [], ◌∷◌, ◌++◌, ap, subst, sym, refl, append-nil}
use Rattle.link_ports.specs.Traffic.{Traffic}
use Rattle.wire_reading.specs.Stream.{Feeding}
use Rattle.door_frames.specs.Carried.{Carried}
use Rattle.door_frames.specs.Hearing.{HearsMore, HandsOut}
use Rattle.door_frames.proofs.Carrying.{carried_same, carried_more}
use Rattle.door_frames.proofs.Hearing.{hears_nothing, hears_more, hands_out_more, takes}
use Rattle.door_frames.proofs.receiving.next_frame.Goals as goal

pub loop-init : goal.loop-init
loop-init g c = (
  tt,
  (
    tt,
    (
      ([], carried_same (g.L.Link.traffic c.args.link.now), hears_nothing c.args.feeder.now),
      (c.requires.sound, (refl, (refl, refl))),
    ),
  ),
)

pub returns-in-Some-take-clause-framed : goal.returns-in-Some-take-clause-framed
returns-in-Some-take-clause-framed g c =
    let so_far = c.loop.invariant.1.1.0 in
    let taken = takes c.loop.feeder c.take.new.self c.in-Some-take.framed c.in-Some-take.ensures.taken c.take.ensures.rest in (
      so_far.0,
      so_far.1,
      subst (λ bytes. HandsOut bytes c.in-Some-take.framed c.args.feeder.now c.take.new.self) (append-nil so_far.0)
          (hands_out_more so_far.0 [] c.in-Some-take.framed c.args.feeder.now c.loop.feeder c.take.new.self so_far.2 taken),
    )

pub returns-in-Err-clause-heard : goal.returns-in-Err-clause-heard
returns-in-Err-clause-heard g c =
    let so_far = c.loop.invariant.1.1.0 in
    let still = c.take.ensures.empty c.in_default.ensures.taken in
    let now = c.receive_more.ensures.heard in
    let heard : HearsMore now.0 c.loop.feeder c.receive_more.new.feeder =
    subst (λ (feeder : Feeding). HearsMore now.0 feeder c.receive_more.new.feeder) still now.2 in (
      so_far.0 ++ now.0,
      carried_more so_far.0 now.0 [] [] (g.L.Link.traffic c.args.link.now) (g.L.Link.traffic c.loop.link) (g.L.Link.traffic c.receive_more.new.link)
          so_far.1 now.1,
      hears_more so_far.0 now.0 c.args.feeder.now c.loop.feeder c.receive_more.new.feeder so_far.2 heard,
    )

pub loop-preserved : goal.loop-preserved
loop-preserved g c =
    let so_far = c.loop.invariant.1.1.0 in
    let still = c.take.ensures.empty c.in_default.ensures.taken in
    let now = c.receive_more.ensures.heard in
    let heard : HearsMore now.0 c.loop.feeder c.receive_more.new.feeder =
    subst (λ (feeder : Feeding). HearsMore now.0 feeder c.receive_more.new.feeder) still now.2 in
    let rest = c.loop.invariant.1.1.1 in (
      tt,
      (
        tt,
        (
          (
            so_far.0 ++ now.0,
            carried_more so_far.0 now.0 [] [] (g.L.Link.traffic c.args.link.now) (g.L.Link.traffic c.loop.link) (g.L.Link.traffic c.receive_more.new.link)
                so_far.1 now.1,
            hears_more so_far.0 now.0 c.args.feeder.now c.loop.feeder c.receive_more.new.feeder so_far.2 heard,
          ),
          (
            c.receive_more.ensures.sound,
            (
              c.receive_more.ensures.side ∙ (ap (λ (feeder : Feeding). feeder.heard) still ∙ rest.1.0),
              (
                c.in_default-receive_more.ensures.faults ∙ rest.1.1.0,
                c.receive_more.ensures.ends ∙ rest.1.1.1,
              ),
            ),
          ),
        ),
      ),
    )
