use Rattle.std.proofs.Common.{◌≡◌, ◌≤◌, ℕ, length, take, Some, subst, arith}
use Rattle.std.proofs.lemmas.List.{length-take-le}
use Rattle.link_ports.specs.Told.{IfTold}
use Rattle.link_ports.specs.Traffic.{with_received}
use Rattle.wire_reading.specs.Stream.{wanted}
use Rattle.client_core.specs.Admin.{wanted_at}
use Rattle.client_core.specs.declared.stages.AdminStage.{AdminStage}
use Rattle.client_connection.specs.Reading.{IsTrouble}
use Rattle.admin_client.proofs.Hearing.{some_came, none_came}
use Rattle.admin_client.proofs.talking.take_piece.Goals as goal

pub returns-then-count-eq0-clause-taken : goal.returns-then-count-eq0-clause-taken
returns-then-count-eq0-clause-taken g c exchange ear was unfinished =
    let start = g.L.Link.traffic c.args.link.now in
    let end = g.L.Link.traffic c.receive_some-count.new.link in
    let trouble = IsTrouble (g.L.Link.marks c.receive_some-count.new.link) (g.L.Link.faults c.receive_some-count.new.link) in
    none_came start end trouble exchange ear c.down.result c.args.machine.now c.down.new.self unfinished
    (subst (λ (n : ℕ). IfTold start (λ before. end ≡ Some (with_received (take n c.receive_some-count.new.room) before))) c.if-count-eq0.true
    c.receive_some-count.ensures.received)
    (c.receive_some-count.ensures.trouble c.if-count-eq0.true) was c.down.ensures

pub returns-clause-taken : goal.returns-clause-taken
returns-clause-taken g c exchange ear was unfinished =
    let start = g.L.Link.traffic c.args.link.now in
    let end = g.L.Link.traffic c.receive_some-count.new.link in
    let trouble = IsTrouble (g.L.Link.marks c.receive_some-count.new.link) (g.L.Link.faults c.receive_some-count.new.link) in
    let count = c.receive_some-count.result in
    let size = length-take-le count c.receive_some-count.new.room c.receive_some-count.ensures.within in
    let most : length c.args.room.now ≤ wanted ear.bytes =
    subst (λ (s : AdminStage). length c.args.room.now ≤ wanted_at s) was c.requires.wanted in
    some_came start end trouble exchange ear c.came.result c.args.machine.now c.came.new.self unfinished
    (take count c.receive_some-count.new.room) c.receive_some-count.ensures.received
    (omega (arith, size, c.if-count-eq0.false))
    (omega (arith, size, most, c.receive_some-count.ensures.within, c.receive_some-count.ensures.size)) was c.came.ensures
