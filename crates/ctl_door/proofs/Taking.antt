-- Parts that are taken one after the other.
use Rattle.std.proofs.Common.{◌≡◌, ◌∙◌, ℕ, List, [], ◌∷◌, ◌++◌, map, Option, Some, Result, Ok, refl, sym, ap, subst, append_assoc}
use Rattle.link_ports.specs.Traffic.{Traffic, with_received}
use Rattle.wire_reading.proofs.Streams.{hears_more, hears_then}
use Rattle.wire_reading.specs.Stream.{Feeding, Hears, unfed}
use Rattle.wire_fields.specs.declared.messages.Framed.{Framed}
use Rattle.wire_fields.specs.declared.operations.Heard.{Heard}
use Rattle.wire_fields.specs.declared.operations.Heard.TheVariants.{Replies}
use Rattle.client_connection.specs.Reading.{Receives}
use Rattle.client_connection.specs.declared.faults.Broken.{Broken}
use Rattle.ctl_door.specs.declared.frames.Part.{Part}
use Rattle.ctl_door.specs.Told.{part_frame, end_frame, TookBytes, AreParts, TookState}

-- a feeder that hears replies
pub as_replies : (feeder : Feeding) (result : Result Framed Broken) (start end : Option Traffic) → feeder ≡ unfed Replies
    → Receives feeder.heard result start end → Receives Replies result start end
as_replies feeder result start end is =
    subst (λ (heard : Heard). Receives heard result start end) (ap (λ (feeder : Feeding). feeder.heard) is)

-- the frames of parts, and one more frame
pub took_frame : (frames : List Framed) (framed : Framed) (start between end : Option Traffic)
    → TookBytes (λ bytes. Hears Replies bytes frames []) start between → Receives Replies (Ok framed) between end
    → TookBytes (λ bytes. Hears Replies bytes (frames ++ framed ∷ []) []) start end
took_frame frames framed start between end one two before told =
    let first = one before told in
    let then = two (with_received first.0 before) first.2 in (
      first.0 ++ then.0,
      hears_then Replies (first.0 ++ then.0) frames then.0 (framed ∷ []) []
          (hears_more Replies first.0 then.0 frames [] first.1) then.1,
      then.2 ∙ ap (λ bytes. Some (record before { received = bytes })) (append_assoc before.received first.0 then.0),
    )

mapped_more : (parts : List Part) (part : Part) → map part_frame parts ++ part_frame part ∷ [] ≡ map part_frame (parts ++ part ∷ [])
mapped_more [] part = refl
mapped_more (other ∷ parts) part = ap (λ frames. part_frame other ∷ frames) (mapped_more parts part)

-- one more part was taken
pub took_part : (parts more : List Part) (part : Part) (framed : Framed) (start between end : Option Traffic) → framed ≡ part_frame part
    → more ≡ parts ++ part ∷ [] → TookBytes (AreParts parts) start between → Receives Replies (Ok framed) between end
    → TookBytes (AreParts more) start end
took_part parts more part framed start between end is all one two =
    let frames : map part_frame parts ++ framed ∷ [] ≡ map part_frame more =
    ap (λ (framed : Framed). map part_frame parts ++ framed ∷ []) is ∙ (mapped_more parts part ∙ sym (ap (λ (parts : List Part). map part_frame parts) all)) in
    subst (λ (frames : List Framed). TookBytes (λ bytes. Hears Replies bytes frames []) start end) frames
    (took_frame (map part_frame parts) framed start between end one two)

-- the commit was taken, with which the state ends
pub took_end : (parts : List Part) (commit : ℕ) (framed : Framed) (start between end : Option Traffic) → framed ≡ end_frame commit
    → TookBytes (AreParts parts) start between → Receives Replies (Ok framed) between end → TookState parts commit start end
took_end parts commit framed start between end is one two =
    subst (λ (framed : Framed). TookBytes (λ bytes. Hears Replies bytes (map part_frame parts ++ framed ∷ []) []) start end) is
    (took_frame (map part_frame parts) framed start between end one two)
