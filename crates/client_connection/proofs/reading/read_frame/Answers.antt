use Rattle.std.proofs.Common.{◌≡◌, ◌∙◌, ◌++◌, ℕ, List, [], Ok, Err, Some, refl, sym, ap, subst}
use Rattle.link_ports.specs.Told.{IfTold}
use Rattle.link_ports.specs.Traffic.{with_received}
use Rattle.wire_reading.specs.Stream.{Feeding, IsOpen}
use Rattle.wire_fields.specs.declared.operations.Heard.{Heard}
use Rattle.client_connection.specs.declared.faults.Broken.TheVariants.{Wrong}
use Rattle.client_connection.proofs.Exchanging.{nothing_open}
use Rattle.client_connection.proofs.Receiving.{received_nothing, received_more, all_read, started, went_on}
use Rattle.client_connection.proofs.reading.read_frame.Goals as goal

pub loop-framed-init : goal.loop-framed-init
loop-framed-init g c =
    let feeder = c.args.feeder.now in
    let start = g.L.Link.traffic c.args.link.now in
    let empty : [] ≡ feeder.partial = sym (ap (λ (feeder : Feeding). feeder.partial) c.requires) in (
      started feeder c.requires,
      (
        subst (λ (partial : List ℕ). IsOpen feeder.heard partial) empty (nothing_open feeder.heard),
        (
          subst (λ (partial : List ℕ). IfTold start (λ before. start ≡ Some (with_received partial before))) empty (received_nothing start),
          (refl, refl),
        ),
      ),
    )

pub loop-framed-preserved : goal.loop-framed-preserved
loop-framed-preserved g c =
    let came = c.in-More.ensures.taken in
    let was = c.loop-framed.invariant.0 in
    let old = c.loop-framed.feeder in
    let new = c.take_piece.new.feeder in
    let side : old.heard ≡ c.args.feeder.now.heard = ap (λ (feeder : Feeding). feeder.heard) was in
    let more : old.partial ++ came.bytes ≡ new.partial = sym (ap (λ (feeder : Feeding). feeder.partial) came.heard.0) in
    let start = g.L.Link.traffic c.args.link.now in
    let end = g.L.Link.traffic c.take_piece.new.link in (
      went_on c.args.feeder.now.heard old new came.bytes was came.heard.0,
      (
        subst (λ (heard : Heard). IsOpen heard new.partial) side came.heard.1,
        (
          subst (λ (partial : List ℕ). IfTold start (λ before. end ≡ Some (with_received partial before))) more
              (received_more old.partial came.bytes start (g.L.Link.traffic c.loop-framed.link) end c.loop-framed.invariant.1.1.0 came.received),
          (
            came.faults ∙ c.loop-framed.invariant.1.1.1.0,
            c.take_piece.ensures.ends ∙ c.loop-framed.invariant.1.1.1.1,
          ),
        ),
      ),
    )

pub returns-in-Whole-clause-received : goal.returns-in-Whole-clause-received
returns-in-Whole-clause-received g c =
    let came = c.in-Whole.ensures.taken in
    all_read c.args.feeder.now.heard c.loop-framed.feeder (Ok c.in-Whole.framed) came.bytes (g.L.Link.traffic c.args.link.now)
    (g.L.Link.traffic c.loop-framed.link) (g.L.Link.traffic c.take_piece.new.link) c.loop-framed.invariant.0 came.heard.1
    c.loop-framed.invariant.1.1.0 came.received

pub returns-in-Wrong-clause-received : goal.returns-in-Wrong-clause-received
returns-in-Wrong-clause-received g c =
    let came = c.in-Wrong.ensures.taken in
    all_read c.args.feeder.now.heard c.loop-framed.feeder (Err (Wrong c.in-Wrong.refusal)) came.bytes (g.L.Link.traffic c.args.link.now)
    (g.L.Link.traffic c.loop-framed.link) (g.L.Link.traffic c.take_piece.new.link) c.loop-framed.invariant.0 came.heard
    c.loop-framed.invariant.1.1.0 came.received
