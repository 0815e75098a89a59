-- What a run says: the answers that are due, how many of their bytes were written, and the last line behind them.
use Rattle.std.specs.Prelude.{◌≡◌, ◌⊎◌, ℕ, List, [], ◌∷◌, ◌++◌}
use Rattle.desk_ports.specs.Faults.{next_count}
use Rattle.desk_ports.specs.Content.{Appended}
use Rattle.run_endings.specs.Outside.{SinkSeen}
use Rattle.run_endings.specs.Ending.{SinkFaults}
use Rattle.run_endings.specs.LastLine.{last_line}
use Rattle.run_endings.specs.declared.endings.Ending.{Ending}
use Rattle.run_endings.specs.declared.endings.Ending.TheVariants.{Done, Memory, Source, Sink, Disk, Net}

-- The answers that are due by the end of a run, and the bytes of them that were written.
pub record Said : Type 0 where
  pub due : List ℕ
  pub written : List ℕ

-- no answer was due
abbrev pub silence : Said
silence = record { due = []; written = [] }

-- these bytes are a front of those, and not all
abbrev pub IsCut : List ℕ → List ℕ → Type 0
IsCut written bytes = (byte : ℕ) × (rest : List ℕ) × (bytes ≡ written ++ byte ∷ rest)

-- All of these bytes were written, and no call of the sink failed; or one did, and only a front of them was written.
abbrev pub IsTried : ℕ → ℕ → List ℕ → List ℕ → Type 0
IsTried faults faults_after bytes written =
    ((faults_after ≡ faults) × (written ≡ bytes)) ⊎ ((faults_after ≡ next_count faults) × IsCut written bytes)

-- ---- before the last line

-- how much was written, and the count of the sink's faults
abbrev pub AreWritten : Ending → ℕ → ℕ → Said → Type 0
AreWritten Memory faults faults_after said = IsTried faults faults_after said.due said.written
AreWritten Sink faults faults_after said = (faults_after ≡ next_count faults) × IsCut said.written said.due
AreWritten ending faults faults_after said = (faults_after ≡ faults) × (said.written ≡ said.due)

-- A sink that tells its content took so much of the answers.
pub record WritesAnswers (ending : Ending) (said : Said) (before after : SinkSeen) : Type 0 where
  pub taken : Appended before.taken said.written after.taken
  pub are_written : AreWritten ending before.faults after.faults said

-- ---- with the last line

-- how much was written of the answers, and of the last line behind them
abbrev pub IsWritten : Ending → ℕ → ℕ → Said → List ℕ → Type 0
IsWritten Done faults faults_after said last = (said.written ≡ said.due) × (last ≡ [])
IsWritten Source faults faults_after said last = (said.written ≡ said.due) × (last ≡ [])
IsWritten Disk faults faults_after said last = (said.written ≡ said.due) × (last ≡ [])
IsWritten Net faults faults_after said last = (said.written ≡ said.due) × (last ≡ [])
IsWritten Memory faults faults_after said last = IsTried faults faults_after said.due said.written × (last ≡ [])
IsWritten Sink faults faults_after said last = IsCut said.written said.due × (last ≡ [])
IsWritten ending faults faults_after said last =
    (said.written ≡ said.due) × IsTried faults faults_after (last_line ending) last

-- A sink that tells its content took so much of the answers, and then this of the last line.
pub record Writes (ending : Ending) (said : Said) (before after : SinkSeen) : Type 0 where
  pub last : List ℕ
  pub taken : Appended before.taken (said.written ++ last) after.taken
  pub is_written : IsWritten ending before.faults after.faults said last
  -- no call of the sink failed but those that the ending tells of
  pub counts : SinkFaults ending before.faults after.faults
