use Rattle.std.proofs.Common.{◌≡◌, ◌-◌, Some, length}
use Rattle.link_ports.specs.Told.{IfTold}
use Rattle.link_ports.specs.Traffic.{with_received}
use Rattle.wire_reading.specs.Stream.{IsOpen, unfed}
use Rattle.client_connection.proofs.reading.read_frame.Given as goal

-- the bytes received so far are those of the frame under way
abbrev pub invariant-loop-framed : goal.invariant-loop-framed
invariant-loop-framed g l =
    (l.feeder ≡ record (unfed l.fn.feeder.heard) { partial = l.feeder.partial })
    × (IsOpen l.fn.feeder.heard l.feeder.partial
    × (IfTold (g.L.Link.traffic l.fn.link) (λ before. g.L.Link.traffic l.link ≡ Some (with_received l.feeder.partial before))
    × ((g.L.Link.faults l.link ≡ g.L.Link.faults l.fn.link)
    × ((g.L.Link.marks l.link).ends ≡ (g.L.Link.marks l.fn.link).ends))))

abbrev pub decreases-loop-framed : goal.decreases-loop-framed
decreases-loop-framed g l = 1048580 - length l.feeder.partial
