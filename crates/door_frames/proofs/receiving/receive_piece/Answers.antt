use Rattle.std.proofs.Common.{rules, ◌≡◌, ◌∙◌, [], take, ap, sym, subst}
use Rattle.wire_reading.specs.Stream.{Feeding}
use Rattle.door_frames.specs.Hearing.{HearsMore}
use Rattle.door_frames.proofs.Carrying.{take_none, carried_nothing, carried_none, carried_received}
use Rattle.door_frames.proofs.Hearing.{hears_nothing}
use Rattle.door_frames.proofs.receiving.receive_piece.Goals as goal

pub returns-in-Ok-eq0-clause-heard : goal.returns-in-Ok-eq0-clause-heard
returns-in-Ok-eq0-clause-heard g c =
    let still = c.in_default.ensures.sound.1 in
    let is : c.in-Ok-eq0.field-0 ≡ 0 = search rules in
    let zero : take c.in-Ok-eq0.field-0 c.receive.new.into ≡ take 0 c.receive.new.into = ap (λ n. take n c.receive.new.into) is in
    let none : take 0 c.receive.new.into ≡ [] = take_none c.receive.new.into in (
      carried_none (take c.in-Ok-eq0.field-0 c.receive.new.into) (g.L.Link.traffic c.args.link.now) (g.L.Link.traffic c.receive.new.self)
          (zero ∙ none) c.in-Ok-eq0.ensures.received,
      subst (λ (feeder : Feeding). HearsMore [] c.args.feeder.now feeder) (sym still) (hears_nothing c.args.feeder.now),
    )

pub returns-in-Ok-clause-came : goal.returns-in-Ok-clause-came
returns-in-Ok-clause-came g c = (
  search rules,
  search rules,
  carried_received (take c.in-Ok.count c.receive.new.into) (g.L.Link.traffic c.args.link.now) (g.L.Link.traffic c.receive.new.self)
      c.in-Ok.ensures.received,
)

pub returns-in-Err-receive-clause-heard : goal.returns-in-Err-receive-clause-heard
returns-in-Err-receive-clause-heard g c =
    let still = c.in_default.ensures.sound.1 in (
      carried_nothing (g.L.Link.traffic c.args.link.now) (g.L.Link.traffic c.receive.new.self) c.in-Err-receive.ensures.unreceived,
      subst (λ (feeder : Feeding). HearsMore [] c.args.feeder.now feeder) (sym still) (hears_nothing c.args.feeder.now),
    )
