use Rattle.std.proofs.Common.{◌≡◌, ◌<◌, ◌≤◌, ℕ, List, length, take, rules, arith}
use Rattle.std.proofs.lemmas.List.{length-take}
use Rattle.client_connection.proofs.Troubles.{trouble-ended}
use Rattle.client_connection.proofs.Receiving.{came, nothing_came}
use Rattle.client_connection.proofs.reading.take_piece.Goals as goal

-- no bytes came: the input has ended
pub returns-in-Ok-eq0-clause-taken : goal.returns-in-Ok-eq0-clause-taken
returns-in-Ok-eq0-clause-taken g c =
    let none : c.in-Ok-eq0.field-0 ≡ 0 = omega arith in
    let link = c.receive.new.self in (
      trouble-ended (g.L.Link.marks c.args.link.now) (g.L.Link.marks link) (g.L.Link.faults link) (length c.args.room.now)
          c.in-Ok-eq0.field-0 c.requires.some none c.in-Ok-eq0.ensures.marks,
      nothing_came c.in-Ok-eq0.field-0 c.receive.new.into (g.L.Link.traffic c.args.link.now) (g.L.Link.traffic link) none
          c.in-Ok-eq0.ensures.received,
    )

-- some bytes came, and were heard
pub returns-in-Ok-clause-taken : goal.returns-in-Ok-clause-taken
returns-in-Ok-clause-taken g c =
    let count = c.in-Ok.count in
    let bytes : List ℕ = take count c.receive.new.into in
    let before = g.L.Link.traffic c.args.link.now in
    let after = g.L.Link.traffic c.receive.new.self in
    let long : length c.receive.new.into ≡ length c.args.room.now = search rules in
    let within : count ≤ length c.args.room.now = c.in-Ok.ensures.within in
    let some : 0 < length bytes = omega (arith, length-take count c.receive.new.into, long, within) in
    let faults : g.L.Link.faults c.receive.new.self ≡ g.L.Link.faults c.args.link.now = search rules in
    came c.hear_piece.result c.args.feeder.now c.hear_piece.new.feeder before after (g.L.Link.marks c.receive.new.self)
    (g.L.Link.faults c.args.link.now) (g.L.Link.faults c.receive.new.self) bytes some c.in-Ok.ensures.received
    c.hear_piece.ensures faults
