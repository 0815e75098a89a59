-- Streams of frames: what bytes begin with, the messages that were heard one after the other, and the feeder's state.
use Rattle.std.specs.Prelude.{◌≡◌, ℕ, ◌+◌, ◌-◌, nat_lt, if◌then◌else◌, List, [], ◌∷◌, ◌++◌, length, take, drop, Option}
use Rattle.std.specs.Prelude.{Some, None, Result, Ok, Err}
use Rattle.wire_fields.specs.declared.messages.Framed.{Framed}
use Rattle.wire_fields.specs.declared.operations.Heard.{Heard}
use Rattle.wire_fields.specs.declared.refusals.WireRefusal.{WireRefusal}
use Rattle.wire_fields.specs.declared.refusals.WireRefusal.TheVariants.{Memory}
use Rattle.wire_reading.specs.Frame.{length_of, length_fault, frame_of}

-- What bytes begin with: less than a frame, a frame that is refused, or a frame of a message with the bytes behind it.
pub data Front : Type 0 where
  Partial : Front
  Wrong : WireRefusal → Front
  Whole : Framed → List ℕ → Front

abbrev pub front_of : Result Framed WireRefusal → List ℕ → Front
front_of (Ok framed) behind = Whole framed behind
front_of (Err refusal) behind = Wrong refusal

-- a length is there: its fault is the first, and then the frame must be whole
abbrev pub with_length : Heard → List ℕ → ℕ → Option WireRefusal → Front
with_length heard bytes size (Some fault) = Wrong fault
with_length heard bytes size None =
    if nat_lt (length bytes) size then Partial else front_of (frame_of heard (take size bytes)) (drop size bytes)

unfoldable pub first_of : Heard → List ℕ → Front
first_of heard bytes =
    if nat_lt (length bytes) 4 then Partial
    else with_length heard bytes (length_of bytes + 4) (length_fault (length_of bytes))

-- no whole frame of a message stands at the front of the bytes
abbrev pub NoneWhole : Heard → List ℕ → Type 0
NoneWhole heard bytes = (framed : Framed) (rest : List ℕ) → first_of heard bytes ≡ Whole framed rest → ⊥

-- these messages were heard one after the other, and these bytes are behind them
abbrev pub Hears : Heard → List ℕ → List Framed → List ℕ → Type 0
Hears heard bytes [] behind = bytes ≡ behind
Hears heard bytes (framed ∷ messages) behind =
    (rest : List ℕ) × (first_of heard bytes ≡ Whole framed rest) × Hears heard rest messages behind

-- the bytes begin with this fault; want of memory says nothing of them
abbrev pub BeginsWrong : Heard → List ℕ → WireRefusal → Type 0
BeginsWrong heard bytes (Memory error) = Unit {0}
BeginsWrong heard bytes refusal = first_of heard bytes ≡ Wrong refusal

-- What a feeder holds: the messages that wait, the bytes of a frame that is not whole, and the refusal that it met.
pub record Feeding : Type 0 where
  pub heard : Heard
  pub waiting : List Framed
  pub partial : List ℕ
  pub failed : Option WireRefusal

-- before the first byte
abbrev pub unfed : Heard → Feeding
unfed heard = record { heard = heard; waiting = []; partial = []; failed = None }

-- the bytes are less than a frame, and what is there of it is right
abbrev pub IsOpen : Heard → List ℕ → Type 0
IsOpen heard bytes = first_of heard bytes ≡ Partial

-- how many bytes are wanted until the length of the frame under way is there, or else until the frame is whole
abbrev pub wanted : List ℕ → ℕ
wanted partial = if nat_lt (length partial) 4 then 4 - length partial else length_of partial + 4 - length partial

-- one message at most was heard in the bytes, and no byte is behind it
pub data HearsOne (bytes : List ℕ) (messages : List Framed) (behind : List ℕ) : Type 0 where
  none : messages ≡ [] → behind ≡ bytes → HearsOne bytes messages behind
  one : (framed : Framed) → messages ≡ framed ∷ [] → behind ≡ [] → HearsOne bytes messages behind

-- the state after a piece, without a refusal: the messages heard wait behind those before, and the rest is no whole
-- frame
pub record Fed (old new : Feeding) (piece : List ℕ) : Type 0 where
  pub messages : List Framed
  pub waiting : new.waiting ≡ old.waiting ++ messages
  pub heard : Hears old.heard (old.partial ++ piece) messages new.partial
  pub unfinished : IsOpen old.heard new.partial
  pub side : new.heard ≡ old.heard
  pub failed : new.failed ≡ None

-- the state after a refusal: the messages before the wrong frame wait, and nothing of the rest is kept
pub record Failed (old new : Feeding) (piece : List ℕ) (refusal : WireRefusal) : Type 0 where
  pub messages : List Framed
  pub behind : List ℕ
  pub waiting : new.waiting ≡ old.waiting ++ messages
  pub heard : Hears old.heard (old.partial ++ piece) messages behind
  pub wrong : BeginsWrong old.heard behind refusal
  pub side : new.heard ≡ old.heard
  pub partial : new.partial ≡ []
  pub failed : new.failed ≡ Some refusal
