use Rattle.std.proofs.Common.{◌≡◌, ◌-◌, length}
use Rattle.wire_reading.specs.Stream.{unfed}
use Rattle.wire_fields.specs.declared.operations.Heard.TheVariants.{Replies}
use Rattle.ctl_door.specs.Told.{TookBytes, AreParts}
use Rattle.ctl_door.proofs.frames.read_parts.Given as goal

-- the frames of the parts so far were taken, and no byte behind them
abbrev pub invariant-parts : goal.invariant-parts
invariant-parts g l =
    TookBytes (AreParts l.parts.items) (g.L.Link.traffic l.fn.link) (g.L.Link.traffic l.link)
    × (l.feeder ≡ unfed Replies)
    × ((g.L.Link.marks l.link).ends ≡ (g.L.Link.marks l.fn.link).ends)

abbrev pub decreases-parts : goal.decreases-parts
decreases-parts g l = 1048576 - length l.parts.items
