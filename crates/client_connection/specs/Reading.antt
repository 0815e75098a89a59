-- One frame is read from a link.
use Rattle.std.specs.Prelude.{◌≡◌, ℕ, ◌+◌, ◌≤◌, nat_lt, if◌then◌else◌, true, List, [], ◌∷◌, length, Option, Some, None}
use Rattle.std.specs.Prelude.{Result, Ok, Err}
use Rattle.link_ports.specs.Told.{IfTold}
use Rattle.link_ports.specs.Traffic.{Traffic, with_received}
use Rattle.link_ports.specs.LinkMarks.{LinkMarks}
use Rattle.link_ports.specs.NetCounts.{gave_trouble}
use Rattle.wire_reading.specs.Frame.{length_of, length_fault}
use Rattle.wire_reading.specs.Stream.{Feeding, Hears, BeginsWrong, IsOpen, unfed}
use Rattle.wire_fields.specs.declared.messages.Framed.{Framed}
use Rattle.wire_fields.specs.declared.operations.Heard.{Heard}
use Rattle.wire_fields.specs.declared.refusals.WireRefusal.{WireRefusal}
use Rattle.client_connection.specs.declared.faults.Broken.{Broken}
use Rattle.client_connection.specs.declared.faults.Broken.TheVariants.{Lost, Wrong}

-- the feeder holds nothing
abbrev pub IsUnused : Feeding → Type 0
IsUnused feeder = feeder ≡ unfed feeder.heard

-- how many bytes a frame of this length has; one of a wrong length is told by the length alone
abbrev pub size_by : ℕ → Option WireRefusal → ℕ
size_by n (Some fault) = 4
size_by n None = n + 4

-- How many bytes the frame that these begin has, as they tell: its length has four, and as long as that is not there no
-- more is known.
abbrev pub size_of : List ℕ → ℕ
size_of bytes = if nat_lt (length bytes) 4 then 4 else size_by (length_of bytes) (length_fault (length_of bytes))

-- the bytes begin with this fault, and none of them is past the frame; of want of memory the latter alone is said
pub record IsWrong (heard : Heard) (bytes : List ℕ) (refusal : WireRefusal) : Type 0 where
  pub begins : BeginsWrong heard bytes refusal
  pub within : length bytes ≤ size_of bytes

-- The bytes are what was read, and none is past the frame: the one frame of the message, one that is wrong, or less
-- than a frame.
abbrev pub IsRead : Heard → Result Framed Broken → List ℕ → Type 0
IsRead heard (Ok framed) bytes = Hears heard bytes (framed ∷ []) []
IsRead heard (Err (Wrong refusal)) bytes = IsWrong heard bytes refusal
IsRead heard (Err Lost) bytes = IsOpen heard bytes

-- the bytes that were received are what was read
abbrev pub Receives : Heard → Result Framed Broken → Option Traffic → Option Traffic → Type 0
Receives heard result old new = IfTold old (λ before.
    (bytes : List ℕ) × IsRead heard result bytes × (new ≡ Some (with_received bytes before)))

-- a link of which no hang end was taken is one whose giving back counts as a failure of the dialler
abbrev pub IsTrouble : LinkMarks → ℕ → Type 0
IsTrouble marks faults = marks.ends ≡ 0 → gave_trouble marks faults ≡ true

abbrev pub IfLost : Broken → Type 0 → Type 0
IfLost Lost fact = fact
IfLost (Wrong refusal) fact = Unit {0}
