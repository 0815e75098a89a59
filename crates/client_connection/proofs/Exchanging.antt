-- A frame that was sent, and what was read behind it.
use Rattle.std.proofs.Common.{◌≡◌, ◌∙◌, List, [], ℕ, Option, Some, Result, Ok, Err, refl, sym, ap, inl, inr, append-nil}
use Rattle.link_ports.specs.Told.{KeepsTold, ChangesTold}
use Rattle.link_ports.specs.Traffic.{Traffic, with_received, with_sent}
use Rattle.wire_reading.specs.Stream.{IsOpen, first_of}
use Rattle.wire_fields.specs.declared.messages.Framed.{Framed}
use Rattle.wire_fields.specs.declared.operations.Heard.{Heard}
use Rattle.wire_fields.specs.declared.operations.Heard.TheVariants.{Replies}
use Rattle.client_connection.specs.Reading.{Receives}
use Rattle.client_connection.specs.Exchange.{IsSent, Exchanges}
use Rattle.client_connection.specs.declared.faults.Broken.{Broken}
use Rattle.client_connection.specs.declared.faults.Broken.TheVariants.{Lost, Wrong}

sent_whole : (frame : List ℕ) (result : Result Framed Broken) → IsSent frame result frame
sent_whole frame (Ok framed) = refl
sent_whole frame (Err (Wrong refusal)) = refl
sent_whole frame (Err Lost) = inl refl

-- the frame was sent, and this was read
pub replied : (frame : List ℕ) (result : Result Framed Broken) (old between new : Option Traffic)
    → ChangesTold old (with_sent frame) between → Receives Replies result between new → Exchanges frame result old new
replied frame result old between new sent received before told =
    let came = received (with_sent frame before) (sent before told) in
    (frame, came.0, sent_whole frame result, came.1, came.2)

-- no bytes are less than a frame
pub nothing_open : (heard : Heard) → IsOpen heard []
unfolding first_of
nothing_open heard = refl

nothing_more : (before : Traffic) → with_received [] (with_sent [] before) ≡ before
nothing_more before = λ i. record { received = append-nil before.received i; sent = append-nil before.sent i }

-- nothing was sent
pub unsent : (frame : List ℕ) (old new : Option Traffic) → KeepsTold old new → Exchanges frame (Err Lost) old new
unsent frame old new kept before told =
    ([], [], inr refl, nothing_open Replies, kept before told ∙ ap Some (sym (nothing_more before)))
