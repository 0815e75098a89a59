-- A connection of an administrator.
use Rattle.std.specs.Prelude.{◌≡◌, ◌++◌, ◌∷◌, [], ℕ, Bool, List, Option, None}
use Rattle.link_ports.specs.Traffic.{Traffic, IsSilent}
use Rattle.link_ports.specs.LinkMarks.{LinkMarks}
use Rattle.desk_state.specs.DeskState.{DeskState}
use Rattle.desk_keeper.specs.Keeper.{disk_of}
use Rattle.desk_keeper.specs.declared.keeper.Keeper.{Keeper}
use Rattle.server_hall.specs.Tally.{Tally, no_calls, after_stop}
use Rattle.server_hall.specs.StopNews.{StopsTold, told_stop}
use Rattle.door_frames.specs.declared.endings.Ended.{Ended}
use Rattle.door_frames.specs.declared.endings.Ended.TheVariants.{Stopped as EndedByStop}
use Rattle.admin_door.specs.Side.{AdminSide, decided_of}
use Rattle.admin_door.specs.Serving.{Exchange, talk_of, Serves}
use Rattle.desk_server.specs.Visit.{Visit, GoesOn, AllGoOn, GoesOnTold, told_each}
use Rattle.desk_server.specs.declared.workers.WorkerEnd.{WorkerEnd}
use Rattle.desk_server.specs.declared.workers.WorkerEnd.TheVariants.{Stopped, DoorFailed, Memory, Alone, Unstarted}

-- What one connection of an administrator leaves to the next: the last state that is known to be kept, and whether it
-- is known what the folder keeps now; the states that were published; the count of the disk's faults; and the frames
-- that came so far, each with its answer. Of a connection these are the frames that were answered, and one behind them
-- whose answer was not sent whole, or that had none.
pub record AdminState : Type 0 where
  pub desk : DeskState
  pub decided : Bool
  pub published : List DeskState
  pub faults : ℕ
  pub frames : List Exchange

abbrev pub admin_state_of : {D : Type 0} → (D → ℕ) → Keeper D → List DeskState → List Exchange → AdminState
admin_state_of faults keeper published frames = record {
  desk = keeper.desk;
  decided = decided_of keeper;
  published = published;
  faults = faults (disk_of keeper);
  frames = frames;
}

-- with a hall by way of which these calls were made
abbrev pub side_in : AdminState → Tally → AdminSide
side_in admin_state tally = record {
  desk = admin_state.desk;
  decided = admin_state.decided;
  published = admin_state.published;
  tally = tally;
  calls = None;
  faults = admin_state.faults;
}

-- what `admin_loop` does, over a hall of the connection's own by way of which no call was made before; its frames came
-- behind those of before
abbrev pub ServesAdmin : {L : Type 0} → (L → Option Traffic) → (L → LinkMarks) → (L → ℕ) → Ended → AdminState → L
    → AdminState
    → L → Type 0
ServesAdmin traffic marks faults ended admin_state link admin_state_now link_now = (tally : Tally) × Serves
    (talk_of (side_in admin_state no_calls) (traffic link) (marks link) (faults link))
    (talk_of (side_in admin_state_now tally) (traffic link_now) (marks link_now) (faults link_now)) ended
    (λ exchanges. admin_state_now.frames ≡ admin_state.frames ++ exchanges)

-- over a link over which nothing went before
abbrev pub VisitsAdministrators : {L : Type 0} → (L → Option Traffic) → (L → LinkMarks) → (L → ℕ) → AdminState
    → Visit L → AdminState
    → Type 0
VisitsAdministrators traffic marks faults admin_state visit admin_state_now =
    IsSilent (traffic visit.accepted)
    × ServesAdmin traffic marks faults visit.ended admin_state visit.accepted admin_state_now visit.returned

-- How a worker of administrators ends behind a connection that ended so: as stopped where that made a stop; and alone
-- where it made none, and the worker is told that the service is stopped.
abbrev pub EndsBehind : WorkerEnd → Ended → StopsTold → StopsTold → Type 0
EndsBehind Stopped ended told told_now = (ended ≡ EndedByStop) × (told_now ≡ told)
EndsBehind Alone ended told told_now = GoesOn ended × (told_now ≡ told_stop told)
EndsBehind end ended told told_now = ⊥

-- It goes on behind each connection that made no stop, where it is told that the service is not stopped. So it ends
-- behind the first one of which that does not hold, or where its door accepts none; and unstarted it served none.
abbrev pub EndsAdministrators : {L : Type 0} → StopsTold → StopsTold → WorkerEnd → List (Visit L) → Type 0
EndsAdministrators told told_now DoorFailed visits = GoesOnTold told told_now visits
EndsAdministrators told told_now Memory visits = GoesOnTold told told_now visits
EndsAdministrators told told_now Unstarted visits = (visits ≡ []) × (told_now ≡ told)
EndsAdministrators {L} told told_now end visits = (front : List (Visit L)) × (last : Visit L)
    × (visits ≡ front ++ last ∷ []) × AllGoOn front × EndsBehind end last.ended (told_each front told) told_now

-- what its own hall counts behind a worker of administrators: it stopped the service itself where its door accepts none
abbrev pub tally_behind : WorkerEnd → Tally → Tally
tally_behind DoorFailed tally = after_stop tally
tally_behind Memory tally = after_stop tally
tally_behind end tally = tally
