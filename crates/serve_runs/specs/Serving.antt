-- What a service does at the door for administrators, and how it ends.
use Rattle.std.specs.Prelude.{◌≡◌, ◌≤◌, ◌<◌, ◌⊎◌, ℕ, true, false, List, [], ◌∷◌, ◌++◌, Option, Some}
use Rattle.std.specs.List.{AllByRecursion, AllZip}
use Rattle.desk_ports.specs.Faults.{next_count}
use Rattle.link_ports.specs.Told.{IfTold}
use Rattle.link_ports.specs.Traffic.{Traffic}
use Rattle.link_ports.specs.LinkMarks.{LinkMarks}
use Rattle.link_ports.specs.declared.door_kinds.DoorKind.{DoorKind}
use Rattle.link_ports.specs.declared.door_kinds.DoorKind.TheVariants.{Admin}
use Rattle.desk_state.specs.DeskState.{DeskState}
use Rattle.live_roll.specs.declared.events.Event.{Event}
use Rattle.live_roll.specs.Events.{NoneBelow}
use Rattle.live_desk.specs.Seat.{SeatState}
use Rattle.admin_door.specs.Hanging.{AreHung}
use Rattle.server_hall.specs.StopNews.{StopsTold, unasked}
use Rattle.desk_server.specs.Visit.{Visit, Works}
use Rattle.desk_server.specs.Administrators.{AdminState, VisitsAdministrators, EndsAdministrators}
use Rattle.desk_server.specs.declared.workers.WorkerEnd.{WorkerEnd}
use Rattle.desk_server.specs.declared.workers.WorkerEnd.TheVariants.{Stopped}
use Rattle.run_endings.specs.declared.endings.Ending.{Ending}
use Rattle.run_endings.specs.declared.endings.Ending.TheVariants.{Done, Memory, Disk, Net}
use Rattle.serve_runs.specs.Pool.{EndedWorker, ends_of, doors_of, lacks_memory, is_deserted, posts_with, Serves}

-- ---- counts

-- A count of failures has risen, or not. At its last value it does not tell, and counts as risen.
abbrev pub HasRisen : ℕ → ℕ → Type 0
HasRisen before after = next_count before ≤ after

abbrev pub HasNotRisen : ℕ → ℕ → Type 0
HasNotRisen before after = after < next_count before

-- ---- endings

-- How a run ends whose doors were opened, by how its workers ended and by the counts of the disk and of the net: for
-- want of memory where an `accept` of one of them found none, or one had no thread; and as done only where each of them
-- ended since the service was stopped, the one of administrators behind a `Stop` that was made, and no call of the two
-- failed. Where the service was stopped by no administrator, and for no failing call, it ends for want of memory too.
abbrev pub EndsService : Ending → List WorkerEnd → ℕ → ℕ → ℕ → ℕ → Type 0
EndsService Done ends disk disk_now net net_now =
    AllByRecursion (λ (end : WorkerEnd). end ≡ Stopped) ends × HasNotRisen disk disk_now × HasNotRisen net net_now
EndsService Memory ends disk disk_now net net_now = (lacks_memory ends ≡ true)
    ⊎ ((is_deserted ends ≡ true) × HasNotRisen disk disk_now × HasNotRisen net net_now)
EndsService Disk ends disk disk_now net net_now = (lacks_memory ends ≡ false) × HasRisen disk disk_now
EndsService Net ends disk disk_now net net_now =
    (lacks_memory ends ≡ false) × HasNotRisen disk disk_now × HasRisen net net_now
EndsService ending ends disk disk_now net net_now = ⊥

-- how a run ends that could not open its doors: memory was wanting, or a call of the net failed
abbrev pub EndsUnopened : Ending → ℕ → ℕ → Type 0
EndsUnopened Memory net net_now = Unit {0}
EndsUnopened Net net net_now = HasRisen net net_now
EndsUnopened ending net net_now = ⊥

-- the work was not done
abbrev pub IsUndone : Ending → Type 0
IsUndone Done = ⊥
IsUndone ending = Unit {0}

-- ---- all that are served

-- what the first administrator meets: the state of the folder is kept, and published
abbrev pub opening : DeskState → ℕ → AdminState
opening desk faults = record { desk = desk; decided = true; published = desk ∷ []; faults = faults; frames = [] }

-- these doors were closed behind those that were closed before, where the net still tells them
abbrev pub ClosesDoors : {E : Type 0} → Option (List E) → List E → Option (List E) → Type 0
ClosesDoors {E} old doors new =
    IfTold new (λ after. (before : List E) × (old ≡ Some before) × (after ≡ before ++ doors))

-- Where not all doors were opened, those that were are closed again, first that for administrators.
abbrev pub ClosesOpened : {E : Type 0} → (E → Option DoorKind) → Option (List E) → Option (List E) → Type 0
ClosesOpened {E} kind closed closed_now = (closed_now ≡ closed)
    ⊎ ((door : E) × (others : List E) × (kind door ≡ Some Admin) × ClosesDoors closed (door ∷ others) closed_now)

-- A service served administrators, one connection after the other, each from the state that the one before it left.
-- Beside them workers of clients, which began with these, and nine of agents, served at doors of their own, and all
-- have ended. What each of clients was answered by is a front of `last.published`, the one list of states that
-- administrators made. What happened in the roll, `events`, is one log too, in which nobody who entered behind a
-- disconnect entered below its commit. Each client entered in it: what its seat knew then is a front of the log, and
-- ends with its entry. Of each command that was answered as done a disconnect up to its commit, or a later one, stands
-- in it. A worker that was unstarted served nobody: so it is with that of administrators where not all workers had
-- threads. The service closed all its doors: first that for administrators, and then those of the workers in their
-- order. Each has its links back.
pub record ServesAll {S L E : Type 0} (seat_of : S → SeatState) (visits : S → Visit L → S → Type 0)
    (traffic : L → Option Traffic) (marks : L → LinkMarks) (faults : L → ℕ)
    (given_back : E → Option (List L)) (door_faults : E → ℕ) (kind : E → Option DoorKind) (starts : List S)
    (ending : Ending) (start : DeskState) (disk disk_now net net_now : ℕ)
    (closed closed_now : Option (List E)) : Type 0 where
  pub end : WorkerEnd
  pub last : AdminState
  pub given : Option (List L)
  pub door : E
  pub is_theirs : kind door ≡ Some Admin
  pub unused : IfTold given (λ links. links ≡ [])
  pub told : StopsTold
  pub works : Works (VisitsAdministrators traffic marks faults) (EndsAdministrators unasked told) marks faults end
      (opening start disk) last
      given (given_back door) 0 (door_faults door)
  pub counted : disk_now ≡ last.faults
  pub events : List Event
  pub none_below : NoneBelow events
  pub hung : AreHung events last.frames
  pub pool : List (EndedWorker S E)
  pub serves : AllZip (Serves seat_of visits traffic marks faults given_back door_faults kind last.published events)
      (posts_with starts) pool
  pub doors : ClosesDoors closed (door ∷ doors_of pool) closed_now
  pub ends : EndsService ending (end ∷ ends_of pool) disk disk_now net net_now
