-- Frames: a length, which counts what follows it, a sequence number, the number of an operation, and its fields.
use Rattle.std.specs.Prelude.{◌≡◌, ℕ, ◌<◌, ◌==◌, nat_lt, if◌then◌else◌, List, ◌∷◌, ◌++◌, length, take, drop, Option}
use Rattle.std.specs.Prelude.{Some, None, is_some, true, slice_index, Result, Ok, Err}
use Rattle.std.specs.Int.{w8, w16, w32, to_be_bytes, from_be_bytes}
use Rattle.wire_fields.specs.declared.messages.Framed.{Framed}
use Rattle.wire_fields.specs.declared.messages.Message.{Message}
use Rattle.wire_fields.specs.declared.operations.Heard.{Heard}
use Rattle.wire_fields.specs.declared.operations.Operation.{Operation}
use Rattle.wire_fields.specs.declared.refusals.WireRefusal.{WireRefusal}
use Rattle.wire_fields.specs.declared.refusals.WireRefusal.TheVariants.{TooShort, TooLong, BadOperation, Trailing}
use Rattle.wire_fields.specs.declared.refusals.EncodeRefusal.{EncodeRefusal}
use Rattle.wire_fields.specs.declared.refusals.EncodeRefusal.TheVariants.{TooLong as TooLongFor, Memory as NoMemory}
use Rattle.wire_fields.specs.Limits.{least_length, most_length}
use Rattle.wire_fields.specs.Left.{Left, Reading, place, ◌>>=◌, Refuses}
use Rattle.wire_fields.specs.Format.{number}
use Rattle.wire_fields.specs.Operation.{number_of, operation_of}
use Rattle.wire_fields.specs.Message.{operation, fields, read}

abbrev pub with_sequence : ℕ → Message → Framed
with_sequence sequence message = record { sequence = sequence; message = message }

-- what follows the length
abbrev pub body : Framed → List ℕ
body framed = to_be_bytes w16 framed.sequence ++ (number_of (operation framed.message) ∷ fields framed.message)

-- the one spelling of a message with its sequence number
abbrev pub spelling : Framed → List ℕ
spelling framed = to_be_bytes w32 (length (body framed)) ++ body framed

-- the length that stands in front of bytes
abbrev pub length_of : List ℕ → ℕ
length_of bytes = from_be_bytes w32 (take 4 bytes)

-- the fault of a length
abbrev pub length_fault : ℕ → Option WireRefusal
length_fault n =
    if nat_lt n least_length then Some (TooShort n) else (if nat_lt most_length n then Some (TooLong n) else None)

-- the message of an operation, if the side knows it
abbrev pub message_at : Option Operation → ℕ → Left → Reading Message
message_at (Some operation) n left = read operation left
message_at None n left = Err (BadOperation n)

-- no byte is left
abbrev pub whole : ℕ → Message × Left → Result Framed WireRefusal
whole sequence last =
    if length last.1.rest == 0 then Ok (record { sequence = sequence; message = last.0 })
    else Err (Trailing (place last.1))

-- what follows a length that has no fault
unfoldable pub body_of : Heard → Left → Result Framed WireRefusal
body_of heard left = do
  sequence ← (number w16).read left
  operation ← (number w8).read sequence.1
  message ← message_at (operation_of heard operation.0) operation.0 operation.1
  whole sequence.0 message

abbrev pub unless_fault : Option WireRefusal → Result Framed WireRefusal → Result Framed WireRefusal
unless_fault (Some fault) framed = Err fault
unless_fault None framed = framed

-- What a frame says to a side, or its first fault. The length in front is the number of the bytes that follow it.
abbrev pub frame_of : Heard → List ℕ → Result Framed WireRefusal
frame_of heard frame =
    unless_fault (length_fault (length_of frame)) (body_of heard (record { end = length frame; rest = drop 4 frame }))

-- the frame of the message would be longer than a frame may be, and this is its length
abbrev pub IsTooLong : Framed → EncodeRefusal → Type 0
IsTooLong framed (TooLongFor n) = (n ≡ length (body framed)) × (most_length < n)
IsTooLong framed (NoMemory error) = Unit {0}

-- A call gives what is read. Want of memory says nothing of the bytes.
abbrev pub Answers : {X : Type 0} → Result X WireRefusal → Result X WireRefusal → Type 0
Answers (Ok x) reading = reading ≡ Ok x
Answers (Err refusal) reading = Refuses refusal reading

-- the side knows the operation whose number stands behind a sequence number
abbrev pub IsKnown : Heard → List ℕ → Type 0
IsKnown heard bytes = is_some (operation_of heard (slice_index bytes 2)) ≡ true

-- the length has no fault, and the side knows the operation
abbrev pub BeginsRight : Heard → List ℕ → Type 0
BeginsRight heard frame = (length_fault (length_of frame) ≡ None) × IsKnown heard (drop 4 frame)
