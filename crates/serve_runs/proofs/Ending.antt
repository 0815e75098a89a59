-- A service is given no source and no sink, and so no call of them ends it.
use Rattle.std.proofs.Common.{ℕ, List, Option}
use Rattle.link_ports.specs.Traffic.{Traffic}
use Rattle.link_ports.specs.LinkMarks.{LinkMarks}
use Rattle.link_ports.specs.declared.door_kinds.DoorKind.{DoorKind}
use Rattle.live_desk.specs.Seat.{SeatState, new_seats}
use Rattle.desk_server.specs.Visit.{Visit}
use Rattle.desk_server.specs.Clients.{VisitsClients}
use Rattle.run_endings.specs.Outside.{DiskSeen}
use Rattle.run_endings.specs.declared.endings.Ending.TheVariants.{Source, Sink}
use Rattle.serve_runs.specs.Run.{RunsServe, RunsPlain}
use Rattle.serve_runs.specs.Run.RunsServe.{refused, unopened, served}

module _ {S L E : Type 0} (seat_of : S → SeatState) (visits : S → Visit L → S → Type 0)
    (traffic : L → Option Traffic) (marks : L → LinkMarks) (faults : L → ℕ)
    (given_back : E → Option (List L)) (door_faults : E → ℕ) (kind : E → Option DoorKind) (starts : List S) (left : Option (List S))
    (before after : DiskSeen) (net net_now : ℕ) (closed closed_now : Option (List E)) where
  pub never-sink : RunsServe seat_of visits traffic marks faults given_back door_faults kind starts left Sink before after net net_now closed
      closed_now → ⊥
  never-sink (refused none folder counted same doors) = folder.refused
  never-sink (unopened none start keeps counted ends doors) = ends
  never-sink (served start serves left_is keeps) = serves.ends

  pub never-source : RunsServe seat_of visits traffic marks faults given_back door_faults kind starts left Source before after net net_now
      closed closed_now → ⊥
  never-source (refused none folder counted same doors) = folder.refused
  never-source (unopened none start keeps counted ends doors) = ends
  never-source (served start serves left_is keeps) = serves.ends

module _ {L E : Type 0} (traffic : L → Option Traffic) (marks : L → LinkMarks) (faults : L → ℕ)
    (given_back : E → Option (List L)) (door_faults : E → ℕ) (kind : E → Option DoorKind) (workers : ℕ)
    (before after : DiskSeen) (net net_now : ℕ) (closed closed_now : Option (List E)) where
  pub plain-not-sink : RunsPlain traffic marks faults given_back door_faults kind workers Sink before after net net_now closed closed_now → ⊥
  plain-not-sink (left, runs) =
      never-sink (λ (seat : SeatState). seat) (VisitsClients traffic marks faults) traffic marks faults given_back door_faults kind
      (new_seats workers) left before after net net_now closed closed_now runs

  pub plain-not-source : RunsPlain traffic marks faults given_back door_faults kind workers Source before after net net_now closed closed_now
      → ⊥
  plain-not-source (left, runs) =
      never-source (λ (seat : SeatState). seat) (VisitsClients traffic marks faults) traffic marks faults given_back door_faults kind
      (new_seats workers) left before after net net_now closed closed_now runs
