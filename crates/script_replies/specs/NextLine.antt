-- The next line of a script is read, or the run ends there.
use Rattle.std.specs.Prelude.{◌≡◌, ◌+◌, ℕ, Bool, true, false, List, Option, Result, Ok, Err}
use Rattle.text_lines.specs.LineReader.{LineReading, HandsOut, Keeps, Ends, GoesPast, IsUnfinished}
use Rattle.run_endings.specs.Ending.{source_faults_after}
use Rattle.run_endings.specs.declared.endings.Ending.{Ending}
use Rattle.run_endings.specs.declared.endings.Ending.TheVariants.{Memory, Line, Source}

module _ (left left_after : Option (List ℕ)) (reading reading_after : LineReading) where
  -- how the next line is handed out; or none is, or the run ends
  abbrev pub ReadsNext : Result Bool Ending → Type 0
  ReadsNext (Ok true) = HandsOut left left_after reading reading_after
  ReadsNext (Ok false) = Ends left left_after reading reading_after
  ReadsNext (Err (Line number)) =
      Keeps left left_after reading reading_after × (number ≡ reading.number + 1)
      × GoesPast reading.longest reading.room reading_after.waiting
  ReadsNext (Err Source) = Keeps left left_after reading reading_after × IsUnfinished reading_after
  ReadsNext (Err Memory) = Keeps left left_after reading reading_after
  ReadsNext (Err ending) = ⊥

-- the source's count behind a phase of a run: one call failed where the run stopped so, and else none
abbrev pub counts_source : {A : Type 0} → Result A Ending → ℕ → ℕ
counts_source (Err ending) count = source_faults_after ending count
counts_source (Ok value) count = count
