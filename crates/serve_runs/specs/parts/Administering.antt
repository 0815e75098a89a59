-- What the calling thread does while the others work.
use Rattle.std.specs.Prelude.{◌≡◌, ◌≤◌, ◌⊎◌, ℕ, Bool, true, false, List, [], ◌∷◌, Option, Some}
use Rattle.std.specs.List.{AllByRecursion, AllZip}
use Rattle.desk_ports.specs.FileMap.{FileMap}
use Rattle.desk_ports.specs.Disk.{DiskState}
use Rattle.link_ports.specs.Told.{IfTold}
use Rattle.link_ports.specs.Traffic.{Traffic}
use Rattle.link_ports.specs.LinkMarks.{LinkMarks}
use Rattle.link_ports.specs.declared.door_kinds.DoorKind.{DoorKind}
use Rattle.link_ports.specs.declared.door_kinds.DoorKind.TheVariants.{Admin}
use Rattle.desk_state.specs.DeskState.{DeskState}
use Rattle.live_roll.specs.declared.events.Event.{Event}
use Rattle.live_roll.specs.Events.{NoneBelow}
use Rattle.admin_door.specs.Hanging.{AreHung}
use Rattle.desk_keeper.specs.Keeper.{IsSameDisk}
use Rattle.desk_keeper.specs.declared.keeper.Keeper.{Keeper}
use Rattle.server_hall.specs.StopNews.{StopsTold, unasked}
use Rattle.admin_door.specs.Serving.{Exchange}
use Rattle.admin_door.specs.Running.{RunsOver}
use Rattle.desk_server.specs.Visit.{Visit, Works}
use Rattle.desk_server.specs.Administrators.{admin_state_of, VisitsAdministrators, EndsAdministrators}
use Rattle.desk_server.specs.declared.workers.WorkerEnd.{WorkerEnd}
use Rattle.desk_server.specs.declared.workers.WorkerEnd.TheVariants.{DoorFailed}
use Rattle.run_endings.specs.declared.endings.Ending.{Ending}
use Rattle.run_endings.specs.declared.endings.Ending.TheVariants.{Done, Memory, Disk, Net}
use Rattle.live_desk.specs.Seat.{SeatState}
use Rattle.serve_runs.specs.Pool.{EndedWorker, ends_of, doors_of, left_by, lacks_memory, is_deserted, Serves}
use Rattle.serve_runs.specs.Serving.{HasRisen, HasNotRisen, ClosesDoors}
use Rattle.serve_runs.specs.Handlers.{AreStatesOf}

-- a net before and after a row of knocks: its count did not fall, and it tells the same doors closed
pub record Knocks {N C : Type 0} (net_faults : N → ℕ) (net_closed : N → Option (List C)) (old new : N) : Type 0 where
  pub no_less : net_faults old ≤ net_faults new
  pub closed : net_closed new ≡ net_closed old

-- Administrators were served until their worker ended. By then this front of the roll's log was known to it.
pub record Administers {D L E : Type 0} (disk_faults : D → ℕ) (state : D → Option DiskState) (moment : D → ℕ)
    (left_since : D → ℕ → FileMap → Type 0) (traffic : L → Option Traffic) (marks : L → LinkMarks)
    (faults : L → ℕ) (given_back : E → Option (List L)) (door_faults : E → ℕ) (kind : E → Option DoorKind)
    (end : WorkerEnd) (keeper keeper_now : Keeper D) (published published_now : List DeskState) (door door_now : E)
    (hangs : List Event) : Type 0 where
  -- the frames that came, each with its answer
  pub frames : List Exchange
  pub told : StopsTold
  pub works : Works (VisitsAdministrators traffic marks faults) (EndsAdministrators unasked told) marks faults end
      (admin_state_of disk_faults keeper published []) (admin_state_of disk_faults keeper_now published_now frames)
      (given_back door) (given_back door_now) (door_faults door) (door_faults door_now)
  pub runs : RunsOver state moment left_since keeper keeper_now frames
  pub hung : AreHung hangs frames
  pub same_disk : IsSameDisk keeper keeper_now
  pub same_kind : kind door_now ≡ kind door

-- What a service did between its opening and its end, by workers of these posts, whose handlers have become these:
-- whether memory or a thread was wanting, whether it was stopped by no administrator, and the rest as of `ServesAll`.
pub record RunsWorkers {S D L E X : Type 0} (state_of : SeatState → X → S) (seat_of : S → SeatState)
    (visits : S → Visit L → S → Type 0)
    (disk_faults : D → ℕ) (state : D → Option DiskState) (moment : D → ℕ)
    (left_since : D → ℕ → FileMap → Type 0) (traffic : L → Option Traffic) (marks : L → LinkMarks)
    (faults : L → ℕ) (given_back : E → Option (List L)) (door_faults : E → ℕ) (kind : E → Option DoorKind)
    (posts : List (Option S)) (handlers : List X) (lacked alone : Bool) (keeper keeper_now : Keeper D) (net net_now : ℕ)
    (closed closed_now : Option (List E)) : Type 0 where
  pub end : WorkerEnd
  pub published : List DeskState
  pub given : Option (List L)
  pub door : E
  pub is_theirs : kind door ≡ Some Admin
  pub unused : IfTold given (λ links. links ≡ [])
  pub frames : List Exchange
  pub told : StopsTold
  pub works : Works (VisitsAdministrators traffic marks faults) (EndsAdministrators unasked told) marks faults end
      (admin_state_of disk_faults keeper (keeper.desk ∷ []) []) (admin_state_of disk_faults keeper_now published frames)
      given (given_back door) 0 (door_faults door)
  pub runs : RunsOver state moment left_since keeper keeper_now frames
  pub events : List Event
  pub none_below : NoneBelow events
  pub hung : AreHung events frames
  pub pool : List (EndedWorker S E)
  pub serves : AllZip (Serves seat_of visits traffic marks faults given_back door_faults kind published events)
      posts pool
  pub left : AreStatesOf state_of handlers (left_by pool)
  pub doors : ClosesDoors closed (door ∷ doors_of pool) closed_now
  pub memory : lacked ≡ lacks_memory (end ∷ ends_of pool)
  pub deserted : alone ≡ is_deserted (end ∷ ends_of pool)
  pub failed : AllByRecursion (λ (one : WorkerEnd). one ≡ DoorFailed → HasRisen net net_now) (end ∷ ends_of pool)

-- which ending follows from what was met, and from the counts of the disk and of the net
abbrev pub EndsBy : Bool → Bool → ℕ → ℕ → ℕ → ℕ → Ending → Type 0
EndsBy lacked alone disk disk_now net net_now Done =
    (lacked ≡ false) × (alone ≡ false) × HasNotRisen disk disk_now × HasNotRisen net net_now
EndsBy lacked alone disk disk_now net net_now Memory =
    (lacked ≡ true) ⊎ ((alone ≡ true) × HasNotRisen disk disk_now × HasNotRisen net net_now)
EndsBy lacked alone disk disk_now net net_now Disk = (lacked ≡ false) × HasRisen disk disk_now
EndsBy lacked alone disk disk_now net net_now Net = (lacked ≡ false) × HasNotRisen disk disk_now × HasRisen net net_now
EndsBy lacked alone disk disk_now net net_now ending = ⊥
