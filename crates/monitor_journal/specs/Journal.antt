-- The lines that a run of `watch` writes, and how their writing stands.
use Rattle.std.specs.Prelude.{◌≡◌, ◌≤◌, ◌*◌, ℕ, List, ◌++◌, length, take}
use Rattle.std.specs.List.{flat_map}
use Rattle.desk_ports.specs.Content.{Appended, AppendedPart}
use Rattle.desk_ports.specs.Faults.{next_count}
use Rattle.run_endings.specs.Outside.{SinkSeen}
use Rattle.monitor_rule.specs.declared.entries.Entry.{Entry}
use Rattle.monitor_rule.specs.Steps.{AreKnown}
use Rattle.monitor_journal.specs.Lines.{entry_text, missed_text}
use Rattle.check_monitor.specs.Monitor.{RecorderState, ReaderState, AreWhole}
use Rattle.monitor_journal.specs.declared.writing.Writing.{Writing}
use Rattle.monitor_journal.specs.declared.writing.Writing.TheVariants.{GoesOn, SinkFailed, OutOfMemory}

-- a line for each entry, in turn
abbrev pub entries_text : List Entry → List ℕ
entries_text entries = flat_map entry_text entries

-- This text was to be written. Where the writing goes on, the sink took all of it; where a call of the sink failed, a
-- front of it, and not all; where memory was wanting, a front of it. Where the writing did not go on before, nothing is
-- written.
abbrev pub Writes : Writing → List ℕ → SinkSeen → Writing → SinkSeen → Type 0
Writes GoesOn text before GoesOn after = (after.faults ≡ before.faults) × Appended before.taken text after.taken
Writes GoesOn text before SinkFailed after =
    (after.faults ≡ next_count before.faults) × AppendedPart before.taken text after.taken
Writes GoesOn text before OutOfMemory after =
    (after.faults ≡ before.faults) × ((n : ℕ) × (n ≤ length text) × Appended before.taken (take n text) after.taken)
Writes writing text before now after = (now ≡ writing) × (after ≡ before)

-- So many entries at most were handed out, each of a worker that has a recorder, and their lines were to be written.
pub record HandsOn (most : ℕ) (reader reader_now : ReaderState) (writing now : Writing) (before after : SinkSeen) :
    Type 0 where
  pub entries : List Entry
  pub few : length entries ≤ most
  pub known : AreKnown reader.made entries
  pub handed : reader_now ≡ record reader { handed = reader.handed ++ entries }
  pub written : Writes writing (entries_text entries) before now after

-- Entries were handed out in so many turns, at most 1,024 in each, each of a worker that has a recorder, and their
-- lines were to be written.
pub record Journals (turns : ℕ) (reader reader_now : ReaderState) (writing now : Writing) (before after : SinkSeen) :
    Type 0 where
  pub entries : List Entry
  pub few : length entries ≤ 1024 * turns
  pub known : AreKnown reader.made entries
  pub handed : reader_now ≡ record reader { handed = reader.handed ++ entries }
  pub written : Writes writing (entries_text entries) before now after

-- for each recorder a line with the count of its checks that were missed, in turn
abbrev pub missed_lines : List RecorderState → List ℕ
missed_lines recorders = flat_map (λ recorder. missed_text recorder.worker recorder.missed) recorders

-- The recorders have ended: what was left was to be written, so that what each put was handed out before or is written
-- here, and nothing of another worker; and then how many checks of each were missed.
pub record EndsJournal (reader : ReaderState) (recorders : List RecorderState) (writing now : Writing)
    (before after : SinkSeen) : Type 0 where
  pub left : List Entry
  pub whole : AreWhole (reader.handed ++ left) recorders
  pub known : AreKnown reader.made left
  pub written : Writes writing (entries_text left ++ missed_lines recorders) before now after
