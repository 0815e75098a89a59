use Rattle.std.proofs.Common.{◌≤◌, ◌<◌, ℕ, List, [], length, take, subst, arith}
use Rattle.std.proofs.lemmas.List.{length-take-le}
use Rattle.wire_reading.specs.Stream.{Feeding}
use Rattle.door_frames.specs.Hearing.{HearsMore}
use Rattle.door_frames.proofs.receiving.receive_more.Goals as goal

pub returns-in-Ok-clause-came : goal.returns-in-Ok-clause-came
returns-in-Ok-clause-came g c =
    let (some, within, carried) = c.in-Ok.ensures.came in
    let size = length-take-le c.in-Ok.count c.receive_piece.new.room within in
    (take c.in-Ok.count c.receive_piece.new.room, omega (arith, size, some), carried)

pub returns-in-Ok-clause-heard : goal.returns-in-Ok-clause-heard
returns-in-Ok-clause-heard g c =
    let bytes : List ℕ = take c.in-Ok.count c.receive_piece.new.room in (
      bytes,
      c.in-Ok.ensures.came.2,
      subst (λ (feeder : Feeding). HearsMore bytes feeder c.hear_piece.new.feeder) c.in-Ok.ensures.still.1 c.hear_piece.ensures.heard,
    )

pub returns-in-Err-clause-heard : goal.returns-in-Err-clause-heard
returns-in-Err-clause-heard g c = ([], c.in-Err.ensures.heard.0, c.in-Err.ensures.heard.1)
