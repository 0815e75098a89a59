-- What a monitor records of a connection of a client.
use Rattle.std.specs.Prelude.{◌≡◌, ◌⊎◌, ℕ, suc, List, [], ◌∷◌, length, Option, Some}
use Rattle.monitor_rule.specs.declared.moments.Moment.{Moment}
use Rattle.monitor_rule.specs.declared.entries.Entry.{Entry}
use Rattle.check_monitor.specs.Monitor.{RecorderState, Records, entry_at}
use Rattle.check_monitor.specs.declared.recording.Recorded.{Recorded}
use Rattle.client_door.specs.Recording.{Recording, with_none_waiting}
use Rattle.client_door.specs.Serving.{ClientSide, Serves}
use Rattle.client_door.specs.declared.judgements.Judgement.{Judgement}
use Rattle.door_frames.specs.declared.endings.Ended.{Ended}

-- the entry of a check that was decided, under this number, recorded at this time
abbrev pub entry_for : ℕ → ℕ → Option Moment → Judgement → Entry
entry_for worker number time judgement = entry_at worker number judgement.question time judgement.decision.commit
    judgement.decision.agent judgement.decision.allowed judgement.cause

-- These checks were recorded, each once and in turn, each at a time that the clock told, or where it failed at none.
abbrev pub RecordsEach : RecorderState → List Judgement → RecorderState → Type 0
RecordsEach old [] new = new ≡ old
RecordsEach old (judgement ∷ more) new = (time : Option Moment) × (recorded : Recorded) × (between : RecorderState)
    × Records old (entry_for old.worker (length old.put) time judgement) recorded between
    × RecordsEach between more new

-- what may be said of a recorder that stood so at the start, while these checks wait
abbrev pub HasRecorded : RecorderState → List Judgement → RecorderState → Option Recording → Type 0
HasRecorded start waiting now told = (recorded : List Judgement)
    × (told ≡ Some (record { recorded = recorded; waiting = waiting }))
    × RecordsEach start recorded now

-- The connection was served as one of a client, with a recorder that recorded the decided checks whose replies were
-- sent; and the monitor's recorder recorded these.
pub record ServesMonitored (result : Ended) (start now : ClientSide) (old new : RecorderState) : Type 0 where
  pub judged : List Judgement
  pub waiting : List Judgement
  pub serves : Serves result (record start { recording = Some (with_none_waiting []) })
      (record now { recording = Some (record { recorded = judged; waiting = waiting }) })
  pub records : RecordsEach old judged new

-- ---- what is put

-- these are the entries of these checks, with the numbers from this one on, each with some time
abbrev pub AreEntriesFrom : ℕ → ℕ → List Judgement → List Entry → Type 0
AreEntriesFrom worker number [] entries = entries ≡ []
AreEntriesFrom worker number (judgement ∷ more) entries = (time : Option Moment) × (others : List Entry)
    × (entries ≡ entry_for worker number time judgement ∷ others) × AreEntriesFrom worker (suc number) more others

-- the first are those of the second, in their order, that are not left out
abbrev pub IsPart : List Judgement → List Judgement → Type 0
IsPart [] [] = Unit {0}
IsPart (one ∷ part) [] = ⊥
IsPart [] (first ∷ whole) = IsPart [] whole
IsPart (one ∷ part) (first ∷ whole) = ((one ≡ first) × IsPart part whole) ⊎ IsPart (one ∷ part) whole
