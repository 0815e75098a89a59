use Rattle.std.proofs.Common.{◌≡◌, ◌-◌, length}
use Rattle.wire_reading.specs.Stream.{unfed}
use Rattle.wire_fields.specs.declared.operations.Heard.TheVariants.{Replies}
use Rattle.ctl_door.specs.Told.{TookBytes}
use Rattle.ctl_door.specs.Service.{AreAgents}
use Rattle.ctl_door.proofs.service_frames.read_service.Given as goal

-- the frames of the kinds so far were taken, and no byte behind them
abbrev pub invariant-kinds : goal.invariant-kinds
invariant-kinds g l =
    TookBytes (AreAgents l.kinds.items) (g.L.Link.traffic l.fn.link) (g.L.Link.traffic l.link)
    × (l.feeder ≡ unfed Replies)
    × ((g.L.Link.marks l.link).ends ≡ (g.L.Link.marks l.fn.link).ends)

abbrev pub decreases-kinds : goal.decreases-kinds
decreases-kinds g l = 65536 - length l.kinds.items
