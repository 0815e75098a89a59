-- What a run of a service does, over the disk and the net before and after.
use Rattle.std.specs.Prelude.{◌≡◌, ℕ, List, [], Option, Some, None}
use Rattle.desk_ports.specs.Disk.{WhereTold}
use Rattle.link_ports.specs.Traffic.{Traffic}
use Rattle.link_ports.specs.LinkMarks.{LinkMarks}
use Rattle.link_ports.specs.declared.door_kinds.DoorKind.{DoorKind}
use Rattle.desk_state.specs.DeskState.{DeskState}
use Rattle.live_desk.specs.Seat.{SeatState, new_seats}
use Rattle.desk_server.specs.Visit.{Visit}
use Rattle.desk_server.specs.Clients.{VisitsClients}
use Rattle.run_endings.specs.Ending.{disk_faults_after}
use Rattle.run_endings.specs.Outside.{DiskSeen}
use Rattle.run_endings.specs.Saying.{silence}
use Rattle.run_endings.specs.declared.endings.Ending.{Ending}
use Rattle.folder_runs.specs.Folder.{RefusesFolder}
use Rattle.serve_runs.specs.Pool.{left_by}
use Rattle.serve_runs.specs.Folder.{KeepsService, AreMadeBy}
use Rattle.serve_runs.specs.Serving.{EndsUnopened, ClosesOpened, ServesAll}

-- The folder was not mounted; or it was, and the doors were not opened; or there was a service, over the state that was
-- mounted, by a worker of clients for each of these starts, which has left this at its end. Of the two last it is told,
-- where the disk told its state, what a stop at any moment of the run may have left in the folder; and of a service
-- that each state which it published is what its commands made of the one that was mounted.
pub data RunsServe {S L E : Type 0} (seat_of : S → SeatState) (visits : S → Visit L → S → Type 0)
    (traffic : L → Option Traffic) (marks : L → LinkMarks) (faults : L → ℕ)
    (given_back : E → Option (List L)) (door_faults : E → ℕ) (kind : E → Option DoorKind)
    (starts : List S) (left : Option (List S))
    (ending : Ending) (before after : DiskSeen) (net net_now : ℕ) (closed closed_now : Option (List E)) : Type 0 where
  refused : left ≡ None → RefusesFolder silence ending before after
      → after.faults ≡ disk_faults_after ending before.faults
      → net_now ≡ net → closed_now ≡ closed
      → RunsServe seat_of visits traffic marks faults given_back door_faults kind
      starts left ending before after net net_now closed closed_now
  unopened : left ≡ None → (start : DeskState)
      → WhereTold before.state (λ entry. KeepsService entry before after start [])
      → after.faults ≡ before.faults → EndsUnopened ending net net_now → ClosesOpened kind closed closed_now
      → RunsServe seat_of visits traffic marks faults given_back door_faults kind
      starts left ending before after net net_now closed closed_now
  served : (start : DeskState)
      → (serves : ServesAll seat_of visits traffic marks faults given_back door_faults kind
      starts ending start before.faults after.faults net net_now closed closed_now)
      → left ≡ Some (left_by serves.pool)
      → WhereTold before.state (λ entry. KeepsService entry before after start serves.last.frames
      × AreMadeBy start serves.last.frames serves.last.published)
      → RunsServe seat_of visits traffic marks faults given_back door_faults kind
      starts left ending before after net net_now closed closed_now

-- what `serve` does by so many workers of clients, whose seats have seen no state and were told of no entry at the
-- start
abbrev pub RunsPlain : {L E : Type 0} → (L → Option Traffic) → (L → LinkMarks) → (L → ℕ) → (E → Option (List L))
    → (E → ℕ) → (E → Option DoorKind) → ℕ → Ending → DiskSeen → DiskSeen → ℕ → ℕ → Option (List E) → Option (List E)
    → Type 0
RunsPlain traffic marks faults given_back door_faults kind workers ending before after net net_now closed closed_now =
    (left : Option (List SeatState))
    × RunsServe (λ seat. seat) (VisitsClients traffic marks faults) traffic marks faults
    given_back door_faults kind (new_seats workers) left ending before after net net_now closed closed_now
