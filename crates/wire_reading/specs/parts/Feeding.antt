-- Steps of a feeder over a piece.
use Rattle.std.specs.Prelude.{◌≡◌, ◌≤◌, ℕ, ◌+◌, List, ◌++◌, length}
use Rattle.wire_fields.specs.declared.messages.Framed.{Framed}
use Rattle.wire_fields.specs.declared.operations.Heard.{Heard}
use Rattle.wire_fields.specs.declared.refusals.WireRefusal.{WireRefusal}
use Rattle.wire_reading.specs.Frame.{length_of}
use Rattle.wire_reading.specs.Stream.{Feeding, Hears, BeginsWrong, IsOpen}

-- the bytes do not pass the end of their first frame
abbrev pub IsUpTo : List ℕ → Type 0
IsUpTo bytes = length bytes ≤ length_of bytes + 4

-- what became of the bytes of a frame: it was heard where it was whole, and is kept where it is not
pub record Settled (heard : Heard) (bytes left : List ℕ) (old new : List Framed) : Type 0 where
  pub messages : List Framed
  pub waiting : new ≡ old ++ messages
  pub hears : Hears heard bytes messages left
  pub unfinished : IsOpen heard left

pub record Unsettled (heard : Heard) (bytes : List ℕ) (old new : List Framed) (refusal : WireRefusal) : Type 0 where
  pub waiting : new ≡ old
  pub wrong : BeginsWrong heard bytes refusal

-- the state after some bytes, of which these are left
pub record Stepped (old new : Feeding) (bytes left : List ℕ) : Type 0 where
  pub messages : List Framed
  pub waiting : new.waiting ≡ old.waiting ++ messages
  pub hears : Hears old.heard (old.partial ++ bytes) messages (new.partial ++ left)
  pub unfinished : IsOpen old.heard new.partial
  pub side : new.heard ≡ old.heard
  pub failed : new.failed ≡ old.failed

-- the state after some bytes of which a frame is refused
pub record Unstepped (old new : Feeding) (bytes : List ℕ) (refusal : WireRefusal) : Type 0 where
  pub messages : List Framed
  pub behind : List ℕ
  pub waiting : new.waiting ≡ old.waiting ++ messages
  pub hears : Hears old.heard (old.partial ++ bytes) messages behind
  pub wrong : BeginsWrong old.heard behind refusal
  pub side : new.heard ≡ old.heard
  pub failed : new.failed ≡ old.failed
