-- The workers of clients and of agents: at their stations, at doors that were opened for them, and once they have
-- ended.
use denote.Ref.{MutBor}
use denote.Param.Members.{Shared}
use Rattle.std.specs.Prelude.{◌≡◌, ℕ, Bool, false, List, [], ◌∷◌, ◌++◌, map, replicate, Option, Some, None}
use Rattle.std.specs.Fork.{ChangesEach}
use mathlib.Core.List.{IsPrefix}
use Rattle.desk_ports.specs.Faults.{next_count}
use Rattle.link_ports.specs.Told.{IfTold}
use Rattle.link_ports.specs.Traffic.{Traffic}
use Rattle.link_ports.specs.LinkMarks.{LinkMarks}
use Rattle.link_ports.specs.declared.door_kinds.DoorKind.{DoorKind}
use Rattle.desk_state.specs.DeskState.{DeskState}
use Rattle.live_roll.specs.declared.events.Event.{Event}
use Rattle.live_desk.specs.History.{GoesOn}
use Rattle.live_desk.specs.Seat.{SeatState}
use Rattle.server_hall.specs.StopNews.{StopsTold, unasked}
use Rattle.desk_server.specs.Visit.{Visit, Works, EndsWorking}
use Rattle.desk_server.specs.Agents.{VisitsAgents}
use Rattle.desk_server.specs.declared.workers.WorkerEnd.{WorkerEnd}
use Rattle.serve_runs.specs.Pool.{kind_for, is_lacking}
use Rattle.serve_runs.specs.Serving.{HasRisen}
use Rattle.serve_runs.specs.declared.pools.Station.{Station}
use Rattle.serve_runs.specs.declared.pools.Station.TheVariants.{Clients, Agents}
use Rattle.serve_runs.specs.declared.pools.Worker.{Worker}

-- ---- stations

-- what is done there beside serving
abbrev pub handler_at : {J X : Type 0} → Station J X → Option X
handler_at (Clients seat handler) = Some handler
handler_at Agents = None

abbrev pub seat_at : {J X : Type 0} → Station J X → Option SeatState
seat_at (Clients seat handler) = Some seat
seat_at Agents = None

-- what a worker there hands on, by what that is of a seat and of what is done beside
abbrev pub post_at : {J X S : Type 0} → (SeatState → X → S) → Station J X → Option S
post_at state (Clients seat handler) = Some (state seat handler)
post_at state Agents = None

-- a station for each seat, with the handler of the same place
abbrev pub manned : {J X : Type 0} → List SeatState → List X → List (Station J X)
manned seats [] = []
manned [] (handler ∷ handlers) = []
manned (seat ∷ seats) (handler ∷ handlers) = Clients seat handler ∷ manned seats handlers

-- those, and then nine for agents
abbrev pub stations_with : {J X : Type 0} → List SeatState → List X → List (Station J X)
stations_with seats handlers = manned seats handlers ++ replicate 9 Agents

-- ---- handlers

-- those that are there, in their order
abbrev pub handlers_in : {X : Type 0} → List (Option X) → List X
handlers_in [] = []
handlers_in (None ∷ more) = handlers_in more
handlers_in (Some handler ∷ more) = handler ∷ handlers_in more

abbrev pub handler_of : {J E X : Type 0} → Worker J E X → Option X
handler_of worker = handler_at worker.station

-- of the workers of clients, in their order
abbrev pub handlers_of : {J E X : Type 0} → List (Worker J E X) → List X
handlers_of pool = handlers_in (map handler_of pool)

-- ---- workers

abbrev pub door_of : {J E X : Type 0} → Worker J E X → E
door_of worker = worker.door

-- an `accept` of the worker found no memory, or it had no thread
abbrev pub lacked : Option WorkerEnd → Bool
lacked (Some end) = is_lacking end
lacked None = false

abbrev pub worker_lacked : {J E X : Type 0} → Worker J E X → Bool
worker_lacked worker = lacked worker.end

-- what the seat has seen, where there is one, begins the states that were published, and what it knows of the roll
-- these events
abbrev pub HasSeenOf : List DeskState → List Event → Option SeatState → Type 0
HasSeenOf published events (Some seat) = GoesOn seat.seen published × IsPrefix seat.events events
HasSeenOf published events None = Unit {0}

-- what the worker's seat has seen, and knows
abbrev pub SawOnly : {J E X : Type 0} → List DeskState → List Event → Worker J E X → Type 0
SawOnly published events worker = HasSeenOf published events (seat_at worker.station)

-- A door whose `accept` has failed raises the count of its net when it is closed.
abbrev pub CountsDoor : ℕ → ℕ → ℕ → Type 0
CountsDoor door_faults before after = door_faults ≡ next_count 0 → HasRisen before after

-- a worker of this station stands at a door that was just opened for it
pub record StandsAt {L J E X : Type 0} (given_back : E → Option (List L)) (door_faults : E → ℕ)
    (kind : E → Option DoorKind)
    (station : Station J X) (worker : Worker J E X) : Type 0 where
  pub station_is : worker.station ≡ station
  pub fresh : door_faults worker.door ≡ 0
  pub unused : IfTold (given_back worker.door) (λ links. links ≡ [])
  pub is_theirs : kind worker.door ≡ Some (kind_for (seat_at station))

module _ {S L J E X : Type 0} (state : SeatState → X → S) (visits : S → Visit L → S → Type 0)
    (traffic : L → Option Traffic) (marks : L → LinkMarks) (faults : L → ℕ)
    (given_back : E → Option (List L)) (door_faults : E → ℕ) where
  -- what a worker did at its station and its door
  abbrev pub WorksAt : WorkerEnd → Station J X → Station J X → E → E → StopsTold → StopsTold → Type 0
  WorksAt end (Clients seat handler) (Clients seat_now handler_now) door door_now told told_now =
      Works visits (EndsWorking told told_now) marks faults end (state seat handler) (state seat_now handler_now)
      (given_back door) (given_back door_now) (door_faults door) (door_faults door_now)
  WorksAt end Agents Agents door door_now told told_now =
      Works (VisitsAgents traffic marks faults) (EndsWorking told told_now) marks faults end tt tt
      (given_back door) (given_back door_now) (door_faults door) (door_faults door_now)
  WorksAt end (Clients seat handler) Agents door door_now told told_now = ⊥
  WorksAt end Agents (Clients seat handler) door door_now told told_now = ⊥

  -- a worker has ended: how, and what it did until then
  pub record HasWorked (kind : E → Option DoorKind) (worker worker_now : Worker J E X) : Type 0 where
    pub end : WorkerEnd
    pub ended : worker_now.end ≡ Some end
    pub told : StopsTold
    pub works : WorksAt end worker.station worker_now.station worker.door worker_now.door unasked told
    pub same_kind : kind worker_now.door ≡ kind worker.door

-- Each worker is what a call left of it.
pub record HaveWorked {F K : Type 0}
    (calls : Shared F (ℕ × (MutBor K × Unit {0})) ((Unit {0}) × (MutBor K × Unit {0}))) (each : F)
    (old new : List K) : Type 0 where
  pub changes : ChangesEach calls each old new
