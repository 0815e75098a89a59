use Rattle.std.proofs.Common.{◌≡◌, ℕ, List, []}
use Rattle.door_frames.specs.Carried.{Carried}
use Rattle.door_frames.specs.Hearing.{IsSound, HearsMore}
use Rattle.door_frames.proofs.receiving.next_frame.Given as goal

-- bytes were received and heard, and no frame was taken
abbrev pub invariant-loop : goal.invariant-loop
invariant-loop g l =
    (goal.iterator-loop g).can_next l.iterator'
    × ((goal.iterator-loop g).is_finite l.iterator'
    × (((bytes : List ℕ) × Carried (g.L.Link.traffic l.fn.link) (g.L.Link.traffic l.link) bytes [] × HearsMore bytes l.fn.feeder l.feeder)
    × (IsSound l.feeder
    × ((l.feeder.heard ≡ l.fn.feeder.heard)
    × ((g.L.Link.faults l.link ≡ g.L.Link.faults l.fn.link)
    × ((g.L.Link.marks l.link).ends ≡ (g.L.Link.marks l.fn.link).ends))))))
