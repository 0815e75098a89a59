-- What the workers of clients and of agents do in a service, each at a door of its own.
use Rattle.std.specs.Prelude.{◌≡◌, ℕ, Bool, true, false, List, [], ◌++◌, map, replicate, Option, Some, None}
use Rattle.std.specs.List.{flat_map, list_any}
use Rattle.std.specs.Option.{option_to_list}
use mathlib.Core.List.{IsPrefix}
use Rattle.link_ports.specs.Told.{IfTold}
use Rattle.link_ports.specs.Traffic.{Traffic}
use Rattle.link_ports.specs.LinkMarks.{LinkMarks}
use Rattle.link_ports.specs.declared.door_kinds.DoorKind.{DoorKind}
use Rattle.link_ports.specs.declared.door_kinds.DoorKind.TheVariants.{Client, Agent}
use Rattle.desk_state.specs.DeskState.{DeskState}
use Rattle.live_roll.specs.declared.events.Event.{Event}
use Rattle.live_desk.specs.History.{GoesOn}
use Rattle.live_desk.specs.Seat.{SeatState}
use Rattle.server_hall.specs.StopNews.{StopsTold, unasked}
use Rattle.desk_server.specs.Visit.{Visit, Works, EndsWorking}
use Rattle.desk_server.specs.Agents.{VisitsAgents}
use Rattle.desk_server.specs.declared.workers.WorkerEnd.{WorkerEnd}
use Rattle.desk_server.specs.declared.workers.WorkerEnd.TheVariants.{Memory as LacksMemory, Alone, Unstarted}

-- Whom a worker serves: clients, where it begins with this; or, without it, agents.
abbrev pub kind_for : {S : Type 0} → Option S → DoorKind
kind_for (Some start) = Client
kind_for None = Agent

-- the workers of clients, which begin with these, and then nine of agents
abbrev pub posts_with : {S : Type 0} → List S → List (Option S)
posts_with starts = map Some starts ++ replicate 9 None

-- A worker that has ended: how, its door as it left it, and what it had then, where it served clients.
pub record EndedWorker (S E : Type 0) : Type 0 where
  pub end : WorkerEnd
  pub door : E
  pub left : Option S

abbrev pub ends_of : {S E : Type 0} → List (EndedWorker S E) → List WorkerEnd
ends_of {S} {E} pool = map (λ (worker : EndedWorker S E). worker.end) pool

abbrev pub doors_of : {S E : Type 0} → List (EndedWorker S E) → List E
doors_of {S} {E} pool = map (λ (worker : EndedWorker S E). worker.door) pool

-- what the workers of clients had at their ends, in their order
abbrev pub left_by : {S E : Type 0} → List (EndedWorker S E) → List S
left_by {S} {E} pool = flat_map (λ (worker : EndedWorker S E). option_to_list worker.left) pool

-- an `accept` of a worker that ended so found no memory, or it had no thread
abbrev pub is_lacking : WorkerEnd → Bool
is_lacking LacksMemory = true
is_lacking Unstarted = true
is_lacking end = false

abbrev pub lacks_memory : List WorkerEnd → Bool
lacks_memory ends = list_any is_lacking ends

-- a worker that ended so was told that the service is stopped, and by no administrator
abbrev pub is_alone : WorkerEnd → Bool
is_alone Alone = true
is_alone end = false

abbrev pub is_deserted : List WorkerEnd → Bool
is_deserted ends = list_any is_alone ends

-- By the seat in what a worker of clients hands on from one connection to the next, and by what serving a connection
-- makes of that.
module _ {S L E : Type 0} (seat_of : S → SeatState) (visits : S → Visit L → S → Type 0)
    (traffic : L → Option Traffic) (marks : L → LinkMarks) (faults : L → ℕ)
    (given_back : E → Option (List L)) (door_faults : E → ℕ) (kind : E → Option DoorKind) (published : List DeskState)
    (events : List Event) where
  -- The connections that a worker of this post served, one after the other, over links that its door gave it: of each
  -- `visits` says what it was answered, at which states of those that its seat had seen by then, and where it entered
  -- in what its seat then knew of the roll's log; or `VisitsAgents` what it was asked. What the seat has seen in all
  -- begins the list of states that all workers share, and what it knows of the roll's log begins the log that all
  -- share.
  abbrev pub WorksFor : Option S → Option S → WorkerEnd → StopsTold → Option (List L) → E → Type 0
  WorksFor (Some start) (Some now) end told given door = GoesOn (seat_of now).seen published
      × IsPrefix (seat_of now).events events
      × Works visits (EndsWorking unasked told) marks faults end start now given (given_back door) 0 (door_faults door)
  WorksFor None None end told given door =
      Works (VisitsAgents traffic marks faults) (EndsWorking unasked told) marks faults end tt tt given
      (given_back door) 0 (door_faults door)
  WorksFor (Some start) None end told given door = ⊥
  WorksFor None (Some now) end told given door = ⊥

  -- A worker of this post served at a door of its kind, to which no link had been given back, and has ended. Where it
  -- was unstarted it served nobody.
  pub record Serves (post : Option S) (worker : EndedWorker S E) : Type 0 where
    pub told : StopsTold
    pub given : Option (List L)
    pub unused : IfTold given (λ links. links ≡ [])
    pub is_theirs : kind worker.door ≡ Some (kind_for post)
    pub works : WorksFor post worker.left worker.end told given worker.door
