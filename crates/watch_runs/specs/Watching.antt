-- What a run of `watch W` does beside serving: it writes of each check that was answered by the policies a line, in the
-- order in which they were handed out, and at the end for each worker how many of its checks were missed.
use Rattle.std.specs.Prelude.{◌≡◌, ℕ, zero, suc, List, [], ◌∷◌, ◌++◌, map, Option, Some, None}
use Rattle.atomic_table.specs.Seated.{TableId}
use Rattle.desk_ports.specs.Content.{Appended}
use Rattle.link_ports.specs.Traffic.{Traffic}
use Rattle.link_ports.specs.LinkMarks.{LinkMarks}
use Rattle.link_ports.specs.declared.door_kinds.DoorKind.{DoorKind}
use Rattle.live_desk.specs.Seat.{new_seat}
use Rattle.run_endings.specs.Outside.{SinkSeen, DiskSeen}
use Rattle.run_endings.specs.LastLine.{last_line}
use Rattle.run_endings.specs.Saying.{IsTried}
use Rattle.run_endings.specs.declared.endings.Ending.{Ending}
use Rattle.run_endings.specs.declared.endings.Ending.TheVariants.{Done, Memory, Sink}
use Rattle.monitor_rule.specs.declared.entries.Entry.{Entry}
use Rattle.monitor_rule.specs.Steps.{AreKnown}
use Rattle.check_monitor.specs.Monitor.{RecorderState, AreWhole, new_recorder_of}
use Rattle.monitor_journal.specs.Journal.{entries_text, missed_lines, Writes}
use Rattle.monitor_journal.specs.declared.writing.Writing.{Writing}
use Rattle.monitor_journal.specs.declared.writing.Writing.TheVariants.{GoesOn, SinkFailed, OutOfMemory}
use Rattle.desk_server.specs.Monitored.{Post, post_of, VisitsWatched}
use Rattle.serve_runs.specs.Run.{RunsServe}

-- ---- endings

-- how a run ends whose service ended so, by how the writing stands: where the work was done and a call of the sink
-- failed, for that
abbrev pub ending_with : Ending → Writing → Ending
ending_with Done SinkFailed = Sink
ending_with Done OutOfMemory = Memory
ending_with met writing = met

-- ---- lines

-- What so many workers of clients begin with: each with the seat and the recorder of its number. A seat has seen no
-- state, and a recorder put nothing. The queue has room for 4,096 entries.
abbrev pub new_posts : TableId → ℕ → List Post
new_posts queue zero = []
new_posts queue (suc count) = new_posts queue count ++ post_of (new_seat count) (new_recorder_of queue 4096 count) ∷ []

abbrev pub recorders_of : List Post → List RecorderState
recorders_of posts = map (λ (post : Post). post.recorder) posts

-- What the sink was to take: nothing where nobody was served. Else a line for each entry, which are for each worker all
-- that its recorder put, in its order, and none of any other worker; and then for each worker the count of its checks
-- that were missed. Where the writing still goes on, the sink took all of it, and else a front of it.
pub data Journaled (workers : ℕ) (left : Option (List Post)) (writing : Writing)
    (before after : SinkSeen) : Type 0 where
  unserved : left ≡ None → writing ≡ GoesOn → after ≡ before → Journaled workers left writing before after
  journaled : (entries : List Entry) → (posts : List Post) → left ≡ Some posts → AreWhole entries (recorders_of posts)
      → AreKnown workers entries
      → Writes GoesOn (entries_text entries ++ missed_lines (recorders_of posts)) before writing after
      → Journaled workers left writing before after

-- ---- the whole

module _ {L E : Type 0} (traffic : L → Option Traffic) (marks : L → LinkMarks) (faults : L → ℕ)
    (given_back : E → Option (List L)) (door_faults : E → ℕ) (kind : E → Option DoorKind) (workers : ℕ) where
  -- A service by so many workers of clients, each of which had its checks recorded by the recorder of its number, ended
  -- so; and the lines of what these recorders put in all were to be written.
  abbrev pub RunsWatch : Ending → DiskSeen → DiskSeen → ℕ → ℕ → Option (List E) → Option (List E) → SinkSeen → SinkSeen
      → Type 0
  RunsWatch ending disk disk_now net net_now closed closed_now sink sink_now =
      (met : Ending) × (writing : Writing) × (queue : TableId) × (left : Option (List Post))
      × RunsServe (λ (post : Post). post.seat) (VisitsWatched traffic marks faults) traffic marks faults given_back door_faults
      kind (new_posts queue workers) left met disk disk_now net net_now closed closed_now
      × Journaled workers left writing sink sink_now
      × (ending ≡ ending_with met writing)

-- ---- what a run writes

-- What the sink took of the lines of a run that ends so. The service itself is given no sink, so it does not end for
-- one.
abbrev pub WritesLines : ℕ → Ending → SinkSeen → SinkSeen → Type 0
WritesLines workers ending before after = (met : Ending) × (writing : Writing) × (left : Option (List Post))
    × (ending ≡ ending_with met writing) × (met ≡ Sink → ⊥) × Journaled workers left writing before after

-- the last line of a run, or a front of it where the sink failed
abbrev pub WritesLast : Ending → SinkSeen → SinkSeen → Type 0
WritesLast ending before after = (last : List ℕ) × Appended before.taken last after.taken
    × IsTried before.faults after.faults (last_line ending) last
