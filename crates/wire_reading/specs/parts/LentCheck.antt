-- A check that is read where it stands.
use Rattle.std.specs.Prelude.{◌≡◌, ◌≤◌, ◌+◌, ℕ, Bool, if◌then◌else◌, List, length, drop, None, Result, Ok, Err}
use Rattle.wire_fields.specs.declared.messages.Framed.{Framed}
use Rattle.wire_reading.specs.declared.lent_checks.LentCheck.{LentCheck}
use Rattle.wire_fields.specs.declared.operations.Heard.TheVariants.{AtClient}
use Rattle.wire_fields.specs.declared.operations.Operation.{Operation}
use Rattle.wire_fields.specs.declared.operations.Operation.TheVariants.{Check, SimpleCheck}
use Rattle.wire_fields.specs.declared.refusals.WireRefusal.{WireRefusal}
use Rattle.wire_reading.specs.Frame.{length_of, length_fault, frame_of, with_sequence}
use Rattle.wire_fields.specs.Left.{Refuses}
use Rattle.wire_reading.specs.Lent.{asks}
use Rattle.wire_reading.specs.Stream.{first_of, front_of}

-- the operation of a check
abbrev pub asked_by : Bool → Operation
asked_by simple = if simple then SimpleCheck else Check

-- a call gives the check that is read, whose frame has so many bytes
abbrev pub ReadsCheck : Result LentCheck WireRefusal → ℕ → Result Framed WireRefusal → Type 0
ReadsCheck (Ok check) size reading =
    (check.size ≡ size) × (reading ≡ Ok (with_sequence check.sequence (asks check.simple check.question)))
ReadsCheck (Err refusal) size reading = Refuses refusal reading

-- this is the frame at the front of the bytes, as far as its length tells
pub record FrontFrame (bytes frame : List ℕ) : Type 0 where
  pub least : 4 ≤ length frame
  pub within : length frame ≤ length bytes
  pub sized : length frame ≡ length_of frame + 4
  pub right : length_fault (length_of frame) ≡ None
  pub first : first_of AtClient bytes ≡ front_of (frame_of AtClient frame) (drop (length frame) bytes)
