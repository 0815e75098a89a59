use Rattle.std.proofs.Common.{List, ◌∙◌, refl, sym, ap, subst}
use Rattle.wire_reading.specs.Stream.{Feeding}
use Rattle.wire_fields.specs.declared.operations.Heard.TheVariants.{AtAdmin}
use Rattle.door_frames.specs.Hearing.{IsSound}
use Rattle.door_frames.proofs.Hearing.{unfed_sound}
use Rattle.admin_door.specs.Side.{side_of}
use Rattle.admin_door.specs.Serving.{Exchange, talk_of}
use Rattle.admin_door.specs.Running.{RunsOver}
use Rattle.admin_door.specs.parts.Talk.{Stands}
use Rattle.desk_keeper.specs.Keeper.{disk_of}
use Rattle.admin_door.proofs.Running.{runs-none}
use Rattle.admin_door.proofs.Serving.{stands-first}
use Rattle.admin_door.proofs.Hanging.{hangs_none, hangs_then}
use Rattle.admin_door.proofs.admin_loops.serve.Goals as goal

pub loop-init : goal.loop-init
loop-init g c =
    let start = talk_of
    (side_of g.D.Disk.faults c.args.keeper.now (g.P.KeptPublisher.states c.args.publisher.now) (g.A.Hall.tally c.args.hall.now) (g.A.Hall.calls c.args.hall.now))
    (g.L.DueLink.traffic c.args.link.now) (g.L.DueLink.marks c.args.link.now) (g.L.DueLink.faults c.args.link.now) in
    let Keeps : List Exchange → Type 0 =
    RunsOver g.D.Disk.state g.D.Disk.moment g.D.Disk.left_since c.args.keeper.now c.args.keeper.now in (
      subst (λ (feeder : Feeding). Stands start start feeder Keeps) (sym c.new-feeder.ensures)
          (stands-first start Keeps (runs-none g.D.Disk.state g.D.Disk.moment g.D.Disk.left_since c.args.keeper.now
          (λ left at. g.met.D.Disk.only_now (disk_of c.args.keeper.now) left at))),
      ap (λ (feeder : Feeding). feeder.heard) c.new-feeder.ensures,
      subst (λ (feeder : Feeding). IsSound feeder) (sym c.new-feeder.ensures) (unfed_sound AtAdmin),
      refl,
      c.requires,
      refl,
      hangs_none (g.P.KeptPublisher.states c.args.publisher.now) c.args.hangs.now,
    )

pub loop-preserved : goal.loop-preserved
loop-preserved g c =
    let start = talk_of
    (side_of g.D.Disk.faults c.args.keeper.now (g.P.KeptPublisher.states c.args.publisher.now) (g.A.Hall.tally c.args.hall.now)
    (g.A.Hall.calls c.args.hall.now))
    (g.L.DueLink.traffic c.args.link.now) (g.L.DueLink.marks c.args.link.now) (g.L.DueLink.faults c.args.link.now) in (
      c.in_default.ensures.talk c.args.keeper.now start c.loop.invariant.0,
      c.in_default.ensures.side,
      c.in_default.ensures.sound,
      c.turn-turn.ensures.room ∙ c.loop.invariant.3,
      c.turn-turn.ensures.behind,
      c.turn-turn.ensures.same_disk ∙ c.loop.invariant.5,
      hangs_then (g.P.KeptPublisher.states c.args.publisher.now) (g.P.KeptPublisher.states c.loop.publisher)
          (g.P.KeptPublisher.states c.turn-turn.new.publisher) c.args.hangs.now c.loop.hangs c.turn-turn.new.hangs c.loop.invariant.6
          c.turn-turn.ensures.hangs,
    )

pub returns-in-Err-clause-hangs : goal.returns-in-Err-clause-hangs
returns-in-Err-clause-hangs g c =
    hangs_then (g.P.KeptPublisher.states c.args.publisher.now) (g.P.KeptPublisher.states c.loop.publisher)
    (g.P.KeptPublisher.states c.turn-turn.new.publisher) c.args.hangs.now c.loop.hangs c.turn-turn.new.hangs c.loop.invariant.6
    c.turn-turn.ensures.hangs
