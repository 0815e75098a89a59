-- The ways in which a run ends: the status of each, and which calls of the outside failed.
use Rattle.std.specs.Prelude.{◌≡◌, ◌<◌, ◌⊎◌, ℕ}
use Rattle.desk_ports.specs.Faults.{next_count, last_count}
use Rattle.run_endings.specs.Outside.{Outside}
use Rattle.run_endings.specs.declared.endings.Ending.{Ending}
use Rattle.run_endings.specs.declared.endings.Ending.TheVariants.{Done, Memory, Words, Line, Source, Sink}
use Rattle.run_endings.specs.declared.endings.Ending.TheVariants.{Disk, Net, Damaged, Reply, TooLong}

abbrev pub status_of : Ending → ℕ
status_of Done = 0
status_of Memory = 1
status_of Words = 2
status_of (Line number) = 3
status_of Source = 4
status_of Sink = 5
status_of Disk = 6
status_of Net = 7
status_of (Damaged file line) = 8
status_of Reply = 9
status_of (TooLong length) = 10

-- the count of the source's faults after a run: one call failed where the run ended so, and else none
abbrev pub source_faults_after : Ending → ℕ → ℕ
source_faults_after Source count = next_count count
source_faults_after ending count = count

-- the count of the disk's faults after a run
abbrev pub disk_faults_after : Ending → ℕ → ℕ
disk_faults_after Disk count = next_count count
disk_faults_after ending count = count

-- the count of the net's faults after a run
abbrev pub net_faults_after : Ending → ℕ → ℕ
net_faults_after Net count = next_count count
net_faults_after ending count = count

-- The count of the sink's faults after a run. One call failed where the run ended so; and one may have failed in the
-- last line, or in writing what waited when memory ran out.
abbrev pub SinkFaults : Ending → ℕ → ℕ → Type 0
SinkFaults Sink before after = after ≡ next_count before
SinkFaults Done before after = after ≡ before
SinkFaults Source before after = after ≡ before
SinkFaults Disk before after = after ≡ before
SinkFaults Net before after = after ≡ before
SinkFaults ending before after = (after ≡ before) ⊎ (after ≡ next_count before)

-- No call of the source and of the disk failed but those that the ending tells of; `Writes` says it of the sink. What a
-- net counts is for each command to say, since one goes on behind a link that failed.
pub record CountsFaults (ending : Ending) (before after : Outside) : Type 0 where
  pub source : after.source.faults ≡ source_faults_after ending before.source.faults
  pub disk : after.disk.faults ≡ disk_faults_after ending before.disk.faults

-- the count of an object no call of which failed; at its last value a count does not tell
abbrev pub Unraised : ℕ → ℕ → Type 0
Unraised before after = (before < last_count) × (after ≡ before)

-- no call of the source, of the sink and of the disk failed
pub record NoCallFails (before after : Outside) : Type 0 where
  pub source : Unraised before.source.faults after.source.faults
  pub sink : Unraised before.sink.faults after.sink.faults
  pub disk : Unraised before.disk.faults after.disk.faults

-- no ending by a failing call
abbrev pub IsUnfailed : Ending → Type 0
IsUnfailed Source = ⊥
IsUnfailed Sink = ⊥
IsUnfailed Disk = ⊥
IsUnfailed ending = Unit {0}
