-- A service that no failing call stops.
use Rattle.std.proofs.Common.{◌≡◌, ◌≤◌, ◌⊎◌, inl, inr, ℕ, List, Option, refl, sym, subst, arith}
use Rattle.desk_ports.specs.Faults.{next_count}
use Rattle.link_ports.specs.Traffic.{Traffic}
use Rattle.link_ports.specs.LinkMarks.{LinkMarks}
use Rattle.link_ports.specs.declared.door_kinds.DoorKind.{DoorKind}
use Rattle.desk_state.specs.DeskState.{DeskState}
use Rattle.live_desk.specs.Seat.{SeatState, new_seats}
use Rattle.desk_server.specs.Visit.{Visit}
use Rattle.desk_server.specs.Clients.{VisitsClients}
use Rattle.desk_server.specs.declared.workers.WorkerEnd.{WorkerEnd}
use Rattle.run_endings.specs.Ending.{disk_faults_after, Unraised}
use Rattle.run_endings.specs.Outside.{DiskSeen}
use Rattle.run_endings.specs.Saying.{silence}
use Rattle.run_endings.specs.declared.endings.Ending.{Ending}
use Rattle.run_endings.specs.declared.endings.Ending.TheVariants.{Done, Memory, Disk, Net, Damaged}
use Rattle.folder_runs.specs.Folder.{RefusesMount, StandsFor}
use Rattle.folder_runs.proofs.Completing as mounting
use Rattle.serve_runs.specs.Serving.{HasRisen, EndsUnopened, EndsService}
use Rattle.serve_runs.specs.Run.{RunsServe, RunsPlain}
use Rattle.serve_runs.specs.Run.RunsServe.{refused, unopened, served}

raises_none : {P : Type 0} (before after : ℕ) → Unraised before after → HasRisen before after → P
raises_none before after (below, same) risen = absurd (omega (arith, below, same, risen))

module _ (before after : DiskSeen) (net net_now : ℕ) (start : DeskState) (stands : StandsFor before start)
    (disk_still : Unraised before.faults after.faults) (net_still : Unraised net net_now) where
  -- a folder that stands for a state is mounted
  mounts : (ending : Ending) → after.faults ≡ disk_faults_after ending before.faults → RefusesMount before.state ending → ending ≡ Memory
  mounts Memory counted refuses = refl
  mounts Disk counted refuses =
      raises_none before.faults after.faults disk_still (subst (λ n. next_count before.faults ≤ n) (sym counted) (omega arith))
  mounts (Damaged file line) counted refuses = mounting.refused silence before after start stands (Damaged file line) tt refuses
  mounts ending counted refuses = absurd refuses

  opens : (ending : Ending) → EndsUnopened ending net net_now → ending ≡ Memory
  opens Memory ends = refl
  opens Net ends = raises_none net net_now net_still ends
  opens ending ends = absurd ends

  serves : (ending : Ending) (ends : List WorkerEnd) → EndsService ending ends before.faults after.faults net net_now
      → (ending ≡ Done) ⊎ (ending ≡ Memory)
  serves Done ends so = inl refl
  serves Memory ends so = inr refl
  serves Disk ends (found, risen) = raises_none before.faults after.faults disk_still risen
  serves Net ends (found, unrisen, risen) = raises_none net net_now net_still risen
  serves ending ends so = absurd so

  module _ {S L E : Type 0} (seat_of : S → SeatState) (visits : S → Visit L → S → Type 0)
      (traffic : L → Option Traffic) (marks : L → LinkMarks) (faults : L → ℕ)
      (given_back : E → Option (List L)) (door_faults : E → ℕ) (kind : E → Option DoorKind) (starts : List S) (left : Option (List S))
      (closed closed_now : Option (List E)) where
    pub completes-serve : (ending : Ending)
        → RunsServe seat_of visits traffic marks faults given_back door_faults kind starts left ending before after net net_now
        closed closed_now
        → (ending ≡ Done) ⊎ (ending ≡ Memory)
    completes-serve ending (refused none folder counted same doors) = inr (mounts ending counted folder.refused)
    completes-serve ending (unopened none first keeps counted ends doors) = inr (opens ending ends)
    completes-serve ending (served first serve left_is keeps) = serves ending _ serve.ends

  module _ {L E : Type 0} (traffic : L → Option Traffic) (marks : L → LinkMarks) (faults : L → ℕ)
      (given_back : E → Option (List L)) (door_faults : E → ℕ) (kind : E → Option DoorKind) (workers : ℕ)
      (closed closed_now : Option (List E)) where
    pub completes-plain : (ending : Ending)
        → RunsPlain traffic marks faults given_back door_faults kind workers ending before after net net_now closed closed_now
        → (ending ≡ Done) ⊎ (ending ≡ Memory)
    completes-plain ending (left, runs) =
        completes-serve (λ (seat : SeatState). seat) (VisitsClients traffic marks faults) traffic marks faults given_back door_faults kind
        (new_seats workers) left closed closed_now ending runs
