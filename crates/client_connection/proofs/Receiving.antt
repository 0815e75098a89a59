-- Bytes that were received piece by piece, and heard.
use Rattle.std.proofs.Common.{◌≡◌, ◌<◌, ◌∙◌, ℕ, List, [], ◌++◌, length, take, Option, Some, Result, Ok, Err, sym, ap, subst, append_assoc, append-nil}
use Rattle.link_ports.specs.Told.{IfTold, KeepsTold, ChangesTold}
use Rattle.link_ports.specs.Traffic.{Traffic, with_received}
use Rattle.link_ports.specs.LinkMarks.{LinkMarks}
use Rattle.wire_reading.specs.Stream.{Feeding, unfed}
use Rattle.wire_fields.specs.declared.messages.Framed.{Framed}
use Rattle.wire_fields.specs.declared.operations.Heard.{Heard}
use Rattle.wire_fields.specs.declared.operations.Heard.TheVariants.{Replies}
use Rattle.wire_fields.specs.declared.refusals.WireRefusal.{WireRefusal}
use Rattle.client_connection.specs.Reading.{IsRead, Receives}
use Rattle.client_connection.specs.Coming.{Comes}
use Rattle.client_connection.specs.parts.Pieces.{HearsPiece, TakesPiece}
use Rattle.client_connection.specs.declared.faults.Broken.{Broken}
use Rattle.client_connection.specs.declared.faults.Broken.TheVariants.{Lost, Wrong}
use Rattle.client_connection.specs.declared.reading.Piece.{Piece}
use Rattle.client_connection.specs.declared.reading.Piece.TheVariants as piece

-- some bytes came, and were heard
pub came : (result : Piece) (old new : Feeding) (before after : Option Traffic) (marks : LinkMarks) (count counted : ℕ) (bytes : List ℕ)
    → 0 < length bytes → IfTold before (λ traffic. after ≡ Some (with_received bytes traffic))
    → HearsPiece result old new bytes → counted ≡ count
    → TakesPiece result old new before after marks count counted
came piece.More old new before after marks count counted bytes some received heard faults =
    record { bytes = bytes; some = some; received = received; heard = heard; faults = faults }
came (piece.Whole framed) old new before after marks count counted bytes some received heard faults =
    record { bytes = bytes; some = some; received = received; heard = heard; faults = faults }
came (piece.Wrong refusal) old new before after marks count counted bytes some received heard faults =
    record { bytes = bytes; some = some; received = received; heard = heard; faults = faults }
came piece.Lost old new before after marks count counted bytes some received heard faults = absurd heard

-- bytes were received behind others
pub received_more : (first more : List ℕ) (start between end : Option Traffic)
    → IfTold start (λ before. between ≡ Some (with_received first before))
    → IfTold between (λ before. end ≡ Some (with_received more before))
    → IfTold start (λ before. end ≡ Some (with_received (first ++ more) before))
received_more first more start between end one two before told =
    two (with_received first before) (one before told)
    ∙ ap (λ bytes. Some (record before { received = bytes })) (append_assoc before.received first more)

-- what the feeder had of the frame and what came then is what was read
pub all_read : (heard : Heard) (feeder : Feeding) (result : Result Framed Broken) (more : List ℕ) (start between end : Option Traffic)
    → feeder ≡ record (unfed heard) { partial = feeder.partial } → IsRead feeder.heard result (feeder.partial ++ more)
    → IfTold start (λ before. between ≡ Some (with_received feeder.partial before))
    → IfTold between (λ before. end ≡ Some (with_received more before))
    → Receives heard result start end
all_read heard feeder result more start between end was read one two before told = (
  feeder.partial ++ more,
  subst (λ (side : Heard). IsRead side result (feeder.partial ++ more)) (ap (λ (feeder : Feeding). feeder.heard) was) read,
  received_more feeder.partial more start between end one two before told,
)

-- nothing was received
pub received_nothing : (start : Option Traffic) → IfTold start (λ before. start ≡ Some (with_received [] before))
received_nothing start before told =
    told ∙ ap Some (λ i. record before { received = sym (append-nil before.received) i })

-- a call that gave no bytes leaves what is told
pub nothing_came : (count : ℕ) (room : List ℕ) (start end : Option Traffic) → count ≡ 0
    → ChangesTold start (with_received (take count room)) end → KeepsTold start end
nothing_came count room start end zero changes before told =
    subst (λ (n : ℕ). ChangesTold start (with_received (take n room)) end) zero changes before told
    ∙ ap Some (λ i. record before { received = append-nil before.received i })

-- ---- the feeder

-- one that holds nothing
pub started : (feeder : Feeding) → feeder ≡ unfed feeder.heard → feeder ≡ record (unfed feeder.heard) { partial = feeder.partial }
started feeder unused =
    unused ∙ ap (λ partial. record (unfed feeder.heard) { partial = partial }) (sym (ap (λ (feeder : Feeding). feeder.partial) unused))

-- one that went on with the frame
pub went_on : (heard : Heard) (old new : Feeding) (bytes : List ℕ) → old ≡ record (unfed heard) { partial = old.partial }
    → new ≡ record old { partial = old.partial ++ bytes } → new ≡ record (unfed heard) { partial = new.partial }
went_on heard old new bytes was now =
    now
    ∙ (ap (λ (feeder : Feeding). record feeder { partial = old.partial ++ bytes }) was
    ∙ ap (λ partial. record (unfed heard) { partial = partial }) (sym (ap (λ (feeder : Feeding). feeder.partial) now)))

-- ---- what came, and what follows

-- a call that failed gave none
pub none_given : (room : List ℕ) (start end : Option Traffic) → KeepsTold start end
    → IfTold start (λ before. end ≡ Some (with_received (take 0 room) before))
none_given room start end kept before told =
    kept before told ∙ ap Some (λ i. record before { received = sym (append-nil before.received) i })

-- bytes that came behind others are what was read
pub read_whole : (bytes more : List ℕ) (start between end : Option Traffic) (result : Result Framed Broken)
    → IfTold start (λ before. between ≡ Some (with_received bytes before))
    → IfTold between (λ before. end ≡ Some (with_received more before))
    → IsRead Replies result (bytes ++ more) → Receives Replies result start end
read_whole bytes more start between end result one two read before told =
    (bytes ++ more, read, received_more bytes more start between end one two before told)

-- the same of what else is known, and of what else follows
pub comes_too : (Reads Known : Result Framed Broken → Type 0) (Whole Other : Framed → Type 0) (Bad Worse : WireRefusal → Type 0) (Cut Ended : Type 0)
    → ((result : Result Framed Broken) → Reads result → Known result)
    → ((framed : Framed) → Whole framed → Other framed) → ((refusal : WireRefusal) → Bad refusal → Worse refusal) → (Cut → Ended)
    → Comes Reads Whole Bad Cut → Comes Known Other Worse Ended
comes_too Reads Known Whole Other Bad Worse Cut Ended known other worse ended (Comes.whole framed read w) =
    Comes.whole framed (known (Ok framed) read) (other framed w)
comes_too Reads Known Whole Other Bad Worse Cut Ended known other worse ended (Comes.bad refusal read b) =
    Comes.bad refusal (known (Err (Wrong refusal)) read) (worse refusal b)
comes_too Reads Known Whole Other Bad Worse Cut Ended known other worse ended (Comes.cut read c) =
    Comes.cut (known (Err Lost) read) (ended c)
