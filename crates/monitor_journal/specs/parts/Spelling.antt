-- Lines that were spelled and are not written yet.
use Rattle.std.specs.Prelude.{◌≡◌, ◌≤◌, ℕ, List, [], ◌++◌, length}
use Rattle.monitor_rule.specs.declared.entries.Entry.{Entry}
use Rattle.monitor_rule.specs.Steps.{AreKnown}
use Rattle.run_endings.specs.Outside.{SinkSeen}
use Rattle.check_monitor.specs.Monitor.{ReaderState}
use Rattle.monitor_journal.specs.Journal.{entries_text, Writes}
use Rattle.monitor_journal.specs.declared.writing.Writing.{Writing}
use Rattle.monitor_journal.specs.declared.writing.Writing.TheVariants.{GoesOn, SinkFailed, OutOfMemory}

-- The text was to be spelled behind what the room held: it stands there where the writing still goes on.
abbrev pub Spells : Writing → List ℕ → List ℕ → Writing → List ℕ → Type 0
Spells GoesOn before text GoesOn room = room ≡ before ++ text
Spells GoesOn before text SinkFailed room = ⊥
Spells GoesOn before text OutOfMemory room = Unit {0}
Spells writing before text now room = now ≡ writing

-- So many entries at most were handed out, and their lines were to be spelled.
pub record SpellsEntries (most : ℕ) (reader reader_now : ReaderState) (writing now : Writing) (before room : List ℕ) :
    Type 0 where
  pub entries : List Entry
  pub few : length entries ≤ most
  pub known : AreKnown reader.made entries
  pub handed : reader_now ≡ record reader { handed = reader.handed ++ entries }
  pub spelled : Spells writing before (entries_text entries) now room

-- the first of what was left were taken, and their lines were to be spelled
pub record SpellsLeft (left left_now : List Entry) (now : Writing) (before room : List ℕ) : Type 0 where
  pub entries : List Entry
  pub first : left ≡ entries ++ left_now
  pub spelled : Spells GoesOn before (entries_text entries) now room

-- A text that was spelled is written, where the writing still goes on.
abbrev pub WritesSpelled : Writing → List ℕ → Writing → SinkSeen → Writing → SinkSeen → Type 0
WritesSpelled spelled room writing before now after =
    (text : List ℕ) → Spells GoesOn [] text spelled room → Writes writing text before now after
