use Rattle.std.proofs.Common.{ℕ, List, [], IfOk, subst}
use Rattle.wire_reading.specs.Stream.{Feeding}
use Rattle.door_frames.specs.Carried.{Carried}
use Rattle.door_frames.specs.Hearing.{HandsOut}
use Rattle.agent_door.proofs.hearing.LinkFeeder.next_frame.Goals as goal

-- what the feeder within was fed is what this one was
pub returns-clause-framed : goal.returns-clause-framed
returns-clause-framed g c =
    subst (λ (fed : Feeding). IfOk c.next_frame.result (λ framed. (bytes : List ℕ)
    × Carried (g.L.Link.traffic c.args.link.now) (g.L.Link.traffic c.next_frame.new.link) bytes []
    × HandsOut bytes framed fed c.next_frame.new.feeder)) c.self.view_is c.next_frame.ensures.framed
