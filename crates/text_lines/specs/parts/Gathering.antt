-- The parts of handing out a line.
use Rattle.std.specs.Prelude.{◌≡◌, ◌<◌, ◌+◌, ◌⊎◌, ℕ, Bool, true, false, List, []}
use Rattle.std.specs.Prelude.{◌∷◌, ◌++◌, length, take, drop, Option, Result, Ok, Err}
use Rattle.desk_ports.specs.Content.{ReadToEnd}
use Rattle.text_lines.specs.Lines.{HasNoNewline}
use Rattle.text_lines.specs.declared.TheConstants.{NEWLINE}
use Rattle.text_lines.specs.LineReader.{LineReading, Keeps, IsHandedOut, IsUnfinished, GoesPast, needs_no_reading}
use Rattle.text_lines.specs.parts.Windows.{ComesFromOutside}
use Rattle.text_lines.specs.declared.refusal.ReadRefusal.{ReadRefusal}
use Rattle.text_lines.specs.declared.refusal.ReadRefusal.TheVariants.{PastLimit, Source, Memory}

-- bytes are cut behind their first newline, or at their end where they have none
pub record IsCut (bytes : List ℕ) (line piece : ℕ) : Type 0 where
  pub no_newline : HasNoNewline (take line bytes)
  pub either : ((bytes ≡ take line bytes ++ NEWLINE ∷ drop piece bytes) × (piece ≡ line + 1) × (line < length bytes))
      ⊎ ((line ≡ length bytes) × (piece ≡ line))

-- a line that waits is past a limit, and the refusal names it
abbrev pub IsPastLimit : LineReading → ReadRefusal → Type 0
IsPastLimit reading (PastLimit number) =
    (number ≡ reading.number + 1) × GoesPast reading.longest reading.room reading.waiting
IsPastLimit reading Source = ⊥
IsPastLimit reading (Memory error) = ⊥

-- one reading brought bytes, or the end
pub record ReadsMore (left left_after : Option (List ℕ)) (old new : LineReading) : Type 0 where
  pub either : (length old.waiting < length new.waiting) ⊎ (new.is_ended ≡ true)
  pub ended : old.is_ended ≡ false → new.is_ended ≡ true → ReadToEnd left left_after

-- one reading failed, and brought nothing
pub record FailsToRead (old new : LineReading) (refusal : ReadRefusal) : Type 0 where
  pub outside : ComesFromOutside refusal
  pub ended : new.is_ended ≡ old.is_ended
  pub waiting : new.waiting ≡ old.waiting

-- how reading up to the next line ends
abbrev pub Gathers : Option (List ℕ) → Option (List ℕ) → LineReading → LineReading → Result (Unit {0}) ReadRefusal
    → Type 0
Gathers left left_after old new (Ok value) = Keeps left left_after old new × (needs_no_reading new ≡ true)
Gathers left left_after old new (Err (PastLimit number)) =
    Keeps left left_after old new × (number ≡ old.number + 1) × GoesPast old.longest old.room new.waiting
Gathers left left_after old new (Err Source) = Keeps left left_after old new × IsUnfinished new
Gathers left left_after old new (Err (Memory error)) = Keeps left left_after old new

-- how a line that waits is handed out
abbrev pub HandsOutWaiting : LineReading → LineReading → Result Bool ReadRefusal → Type 0
HandsOutWaiting old new (Ok true) = IsHandedOut old new × (new.is_ended ≡ old.is_ended)
HandsOutWaiting old new (Ok false) = (new ≡ old) × (old.waiting ≡ []) × (old.is_ended ≡ true)
HandsOutWaiting old new (Err refusal) = (new ≡ old) × IsPastLimit old refusal
