-- A recorder, the reader, and what each call makes of them.
use Rattle.std.specs.Prelude.{◌≡◌, ◌<◌, ◌⊎◌, ℕ, Bool, zero, suc, List, [], ◌∷◌, ◌++◌, length, map, Option}
use Rattle.std.specs.List.{AllByRecursion}
use mathlib.Core.Option.{some}
use lib.ListN.{get_elem?}
use Rattle.atomic_table.specs.Seated.{TableId}
use Rattle.crossbeam_queue.specs.Fifo.{Held}
use Rattle.bucket_eval.specs.declared.answers.Cause.{Cause}
use Rattle.bucket_eval.specs.declared.answers.Verdict.{Verdict}
use Rattle.cynara_keys.specs.Key.{Question}
use Rattle.cynara_keys.specs.declared.results.Kind.{Kind}
use Rattle.desk_ports.specs.Faults.{next_count}
use Rattle.monitor_rule.specs.declared.entries.Entry.{Entry}
use Rattle.monitor_rule.specs.declared.moments.Moment.{Moment}
use Rattle.monitor_rule.specs.declared.knowing.Account.{Account}
use Rattle.monitor_rule.specs.declared.knowing.View.{View}
use Rattle.monitor_rule.specs.Entries.{of_worker}
use Rattle.check_monitor.specs.declared.recorders.Decided.{Decided}
use Rattle.check_monitor.specs.declared.recording.Recorded.{Recorded}
use Rattle.check_monitor.specs.declared.recording.Recorded.TheVariants.{Put, Full, Spent}

-- a recorder: its queue, and how many entries that has room for; its worker, what it put, and how many checks were
-- missed
pub record RecorderState : Type 0 where
  pub queue : TableId
  pub room : ℕ
  pub worker : ℕ
  pub put : List Entry
  pub missed : ℕ

-- the reader: its queue, and how many entries that has room for; how many recorders were made, and what was handed out
pub record ReaderState : Type 0 where
  pub queue : TableId
  pub room : ℕ
  pub made : ℕ
  pub handed : List Entry

-- a recorder that put nothing
abbrev pub new_recorder_of : TableId → ℕ → ℕ → RecorderState
new_recorder_of queue room worker = record { queue = queue; room = room; worker = worker; put = []; missed = 0 }

-- a recorder for each worker below the count, in turn
abbrev pub new_recorders : TableId → ℕ → ℕ → List RecorderState
new_recorders queue room zero = []
new_recorders queue room (suc count) = new_recorders queue room count ++ new_recorder_of queue room count ∷ []

-- a reader that handed out nothing
abbrev pub new_reader_of : TableId → ℕ → ℕ → ReaderState
new_reader_of queue room made = record { queue = queue; room = room; made = made; handed = [] }

abbrev pub with_one_recorder : ReaderState → ReaderState
with_one_recorder reader = record reader { made = suc reader.made }

-- The entry of a check that was decided: recorded at this time, under this commit, by an agent of a kind or by the
-- policies, as ALLOW or not, for this cause.
abbrev pub entry_at : ℕ → ℕ → Question → Option Moment → ℕ → Option Kind → Bool → Cause → Entry
entry_at worker number question time commit agent allowed cause = record {
  worker = worker;
  number = number;
  client = question.client;
  user = question.user;
  privilege = question.privilege;
  commit = commit;
  allowed = allowed;
  time = time;
  agent = agent;
  cause = cause;
}

-- the same, of a decision that is lent
abbrev pub entry_of_decided : ℕ → ℕ → Question → Decided → Entry
entry_of_decided worker number question decided =
    entry_at worker number question decided.time decided.commit decided.agent decided.allowed decided.cause.now

-- the verdict is DENY or ALLOW
abbrev pub IsDecided : Verdict → Type 0
IsDecided verdict = (verdict.answer.kind.0 ≡ 0) ⊎ (verdict.answer.kind.0 ≡ 65535)

abbrev pub with_entry : Entry → RecorderState → RecorderState
with_entry entry recorder = record recorder { put = recorder.put ++ entry ∷ [] }

-- a check was missed
abbrev pub with_miss : RecorderState → RecorderState
with_miss recorder = record recorder { missed = next_count recorder.missed }

-- At one moment of the call the queue held as many entries as it may. What the recorder had put was what there was of
-- its worker among what was handed out and those.
abbrev pub WasFull : RecorderState → Type 0
WasFull recorder = Held recorder.room
    (λ items. (handed : List Entry) × (recorder.put ≡ of_worker recorder.worker (handed ++ items)))

-- what became of a check with this entry
abbrev pub Records : RecorderState → Entry → Recorded → RecorderState → Type 0
Records old entry (Put number) new =
    (length old.put < 72057594037927936) × (number ≡ length old.put) × (new ≡ with_entry entry old)
Records old entry (Full missed) new =
    (length old.put < 72057594037927936) × (missed ≡ new.missed) × (new ≡ with_miss old) × WasFull old
Records old entry (Spent missed) new =
    (length old.put ≡ 72057594037927936) × (missed ≡ new.missed) × (new ≡ with_miss old)

-- the entry was handed out; its number is the count of its worker's entries that were handed out before
abbrev pub HandsOut : ReaderState → Entry → ReaderState → Type 0
HandsOut old entry new =
    (new ≡ record old { handed = old.handed ++ entry ∷ [] })
    × (entry.number ≡ length (of_worker entry.worker old.handed))

-- the recorders are of this queue
abbrev pub AreOf : TableId → List RecorderState → Type 0
AreOf queue recorders = AllByRecursion (λ recorder. recorder.queue ≡ queue) recorders

-- each worker below the count has one of the recorders
abbrev pub Cover : ℕ → List RecorderState → Type 0
Cover count recorders = (worker : ℕ) → worker < count → (place : ℕ) × (recorder : RecorderState)
    × (get_elem? recorders place ≡ some recorder) × (recorder.worker ≡ worker)

-- the recorders are all those of a reader of this queue that made so many
abbrev pub AreAll : TableId → ℕ → List RecorderState → Type 0
AreAll queue count recorders = AreOf queue recorders × Cover count recorders

-- the recorder is of the same queue and the same worker
abbrev pub IsSame : RecorderState → RecorderState → Type 0
IsSame old new = (new.queue ≡ old.queue) × (new.worker ≡ old.worker)

-- what each recorder put are the entries of its worker among these, in their order
abbrev pub AreWhole : List Entry → List RecorderState → Type 0
AreWhole entries recorders = AllByRecursion (λ recorder. recorder.put ≡ of_worker recorder.worker entries) recorders

-- what the recorder put in all
abbrev pub account_in : RecorderState → Account
account_in recorder = record { worker = recorder.worker; put = recorder.put }

-- the recorders were taken in
abbrev pub with_joined_all : List RecorderState → View → View
with_joined_all recorders v = record v { joined = v.joined ++ map account_in recorders }
