-- What is left of a frame, and what reading it gives.
use Rattle.std.specs.Prelude.{◌≡◌, ◌<◌, ◌≤◌, ℕ, ◌-◌, List, length, get_or, Result, Ok, Err}
use Rattle.std.specs.Borrow.{Bor}
use Rattle.wire_fields.specs.declared.refusals.WireRefusal.{WireRefusal}
use Rattle.wire_fields.specs.declared.refusals.WireRefusal.TheVariants.{BadField, Memory}

-- how many bytes the frame has, and those that are left of it
pub record Left : Type 0 where
  pub end : ℕ
  pub rest : List ℕ

-- the place of the next byte, from the frame's first
abbrev pub place : Left → ℕ
place left = left.end - length left.rest

abbrev pub IsLeft : Left → Type 0
IsLeft left = (length left.rest ≤ left.end) × (left.end ≤ 1048580)

abbrev pub IsBytes : List ℕ → Type 0
IsBytes bytes = (i : ℕ) → get_or bytes i 0 < 256

-- a value and what is left behind it, or the first fault
abbrev pub Reading : Type 0 → Type 0
Reading X = Result (X × Left) WireRefusal

-- the field that begins here is wrong
abbrev pub wrong : {X : Type 0} → Left → Reading X
wrong left = Err (BadField (place left))

infixl 10 ◌>>=◌
abbrev pub ◌>>=◌ : {X Y : Type 0} → Result X WireRefusal → (X → Result Y WireRefusal) → Result Y WireRefusal
(Ok x) >>= next = next x
(Err refusal) >>= next = Err refusal

-- A call refuses what is read as a fault, with that fault. Want of memory says nothing of the bytes.
abbrev pub Refuses : {X : Type 0} → WireRefusal → Result X WireRefusal → Type 0
Refuses (Memory error) reading = Unit {0}
Refuses refusal reading = reading ≡ Err refusal

-- A call gives what is read, and leaves what is left behind it.
abbrev pub Gives : {X : Type 0} → Result X WireRefusal → Left → Reading X → Type 0
Gives (Ok value) left reading = reading ≡ Ok (value, left)
Gives (Err refusal) left reading = Refuses refusal reading

-- the same for bytes that are lent
abbrev pub GivesText : Result (Bor (List ℕ)) WireRefusal → Left → Reading (List ℕ) → Type 0
GivesText (Ok value) left reading = reading ≡ Ok (value.now, left)
GivesText (Err refusal) left reading = Refuses refusal reading

-- A call lacks memory only where this holds.
abbrev pub OnMemory : {X : Type 0} → Result X WireRefusal → Type 0 → Type 0
OnMemory (Err (Memory error)) holds = holds
OnMemory result holds = Unit {0}
