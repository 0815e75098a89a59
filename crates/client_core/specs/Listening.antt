-- The bytes of one frame, as far as they came.
use Rattle.std.specs.Prelude.{◌≡◌, ℕ, nat_lt, nat_le, Bool, false, if◌then◌else◌, List, [], length, None}
use Rattle.wire_fields.specs.declared.operations.Heard.{Heard}
use Rattle.wire_reading.specs.Stream.{Feeding, IsOpen, wanted}

-- who hears, and the bytes of the frame under way
pub record Listening : Type 0 where
  pub side : Heard
  pub bytes : List ℕ

abbrev pub unheard : Heard → Listening
unheard side = record { side = side; bytes = [] }

-- what holds of the feeder that hears them
pub record IsQuiet (feeder : Feeding) : Type 0 where
  pub waiting : feeder.waiting ≡ []
  pub failed : feeder.failed ≡ None
  pub unfinished : IsOpen feeder.heard feeder.partial

-- some bytes, and no more than are wanted behind those that are there
abbrev pub is_fit : List ℕ → List ℕ → Bool
is_fit there bytes = if nat_lt 0 (length bytes) then nat_le (length bytes) (wanted there) else false
