-- How a text is read from a source line by line.
use Rattle.std.specs.Prelude.{◌≡◌, ◌<◌, ◌≤◌, ◌+◌, ◌⊎◌, ℕ, Bool, true, false, ◌||◌}
use Rattle.std.specs.Prelude.{List, [], ◌∷◌, ◌++◌, length, Option, Result, Ok, Err}
use Rattle.std.specs.List.{list_any}
use Rattle.desk_ports.specs.Faults.{next_count}
use Rattle.desk_ports.specs.Content.{Took, ReadToEnd}
use Rattle.text_lines.specs.Lines.{HasNoNewline, pieces_of, line_of, IsPieceOf, is_newline}
use Rattle.text_lines.specs.declared.refusal.ReadRefusal.{ReadRefusal}
use Rattle.text_lines.specs.declared.refusal.ReadRefusal.TheVariants.{PastLimit, Source, Memory}

-- Where the reading of a text stands.
pub record LineReading : Type 0 where
  -- the line in hand, without its newline, and its number from 1; number 0 is that of no line
  pub line : List ℕ
  pub number : ℕ
  -- the bytes that were read behind it
  pub waiting : List ℕ
  -- how many bytes the text may have from those on
  pub room : ℕ
  -- the most bytes of a line, without its newline
  pub longest : ℕ
  -- whether the source has given its end
  pub is_ended : Bool

-- a whole line waits, with its newline
abbrev pub has_line : LineReading → Bool
has_line reading = list_any is_newline reading.waiting

-- nothing more is read from the source for the next line
abbrev pub needs_no_reading : LineReading → Bool
needs_no_reading reading = has_line reading || reading.is_ended

-- What waited is a line with its newline, and then what waits now. A last line may lack its newline; then the source is
-- at its end, and nothing waits.
pub record IsHandedOut (old new : LineReading) : Type 0 where
  pub piece : List ℕ
  pub cut : old.waiting ≡ piece ++ new.waiting
  pub line : IsPieceOf new.line piece
  pub last : HasNoNewline piece → (new.is_ended ≡ true) × (new.waiting ≡ [])
  pub number : new.number ≡ old.number + 1
  pub room : new.room + length piece ≡ old.room
  pub short : length new.line ≤ old.longest
  pub longest : new.longest ≡ old.longest

-- the same, with these bytes behind those that waited
abbrev pub followed_by : LineReading → List ℕ → LineReading
followed_by reading given = record reading { waiting = reading.waiting ++ given }

module _ (left left_after : Option (List ℕ)) (old new : LineReading) where
  -- What waited, followed by what the source gave, begins with the line that is handed out.
  pub record HandsOut : Type 0 where
    pub given : List ℕ
    pub took : Took left given left_after
    pub ended : old.is_ended ≡ true → given ≡ []
    pub handed_out : IsHandedOut (followed_by old given) new

  -- What the source gave waits behind what waited. No line was handed out.
  pub record Keeps : Type 0 where
    pub given : List ℕ
    pub took : Took left given left_after
    pub ended : old.is_ended ≡ true → given ≡ []
    pub stays_ended : old.is_ended ≡ true → new.is_ended ≡ true
    pub waiting : new.waiting ≡ old.waiting ++ given
    pub number : new.number ≡ old.number
    pub room : new.room ≡ old.room
    pub longest : new.longest ≡ old.longest

  -- No line is left: nothing waits, and the source is at its end.
  pub record Ends : Type 0 where
    pub kept : Keeps
    pub nothing : new.waiting ≡ []
    pub ended : new.is_ended ≡ true

-- The first line of these bytes, whatever follows them, is longer than a line may be, or goes past the room.
abbrev pub GoesPast : ℕ → ℕ → List ℕ → Type 0
GoesPast longest room bytes =
    (more : List ℕ)
    → (piece : List ℕ) × (pieces : List (List ℕ))
    × (pieces_of (bytes ++ more) ≡ piece ∷ pieces) × ((room < length piece) ⊎ (longest < length (line_of piece)))

-- What the source had to give before it failed is no whole line, and within the limits.
pub record IsUnfinished (reading : LineReading) : Type 0 where
  pub no_newline : HasNoNewline reading.waiting
  pub short : length reading.waiting ≤ reading.longest
  pub within : length reading.waiting ≤ reading.room

-- how the next line is handed out, or not
abbrev pub HandsOutNext : Option (List ℕ) → Option (List ℕ) → LineReading → LineReading → Result Bool ReadRefusal
    → Type 0
HandsOutNext left left_after old new (Ok true) = HandsOut left left_after old new
HandsOutNext left left_after old new (Ok false) = Ends left left_after old new
HandsOutNext left left_after old new (Err (PastLimit number)) =
    Keeps left left_after old new × (number ≡ old.number + 1) × GoesPast old.longest old.room new.waiting
HandsOutNext left left_after old new (Err Source) = Keeps left left_after old new × IsUnfinished new
HandsOutNext left left_after old new (Err (Memory error)) = Keeps left left_after old new

-- where the reading ended in this call, the source was read to its end
abbrev pub EndsReading : Option (List ℕ) → Option (List ℕ) → LineReading → LineReading → Type 0
EndsReading left left_after old new = old.is_ended ≡ false → new.is_ended ≡ true → ReadToEnd left left_after

-- The source's count of faults rose by one where a call of the source failed, and stayed else.
abbrev pub CountsReading : {A : Type 0} → Result A ReadRefusal → ℕ → ℕ → Type 0
CountsReading (Err Source) before after = after ≡ next_count before
CountsReading outcome before after = after ≡ before
