-- Which states the replies of a worker are of, and where its connections entered.
use Rattle.std.specs.Prelude.{◌≡◌, ◌≤◌, ℕ, List, [], ◌∷◌, ◌++◌, Option}
use Rattle.std.specs.List.{AllByRecursion}
use Rattle.link_ports.specs.Traffic.{Traffic}
use Rattle.link_ports.specs.LinkMarks.{LinkMarks}
use Rattle.desk_state.specs.DeskState.{DeskState}
use Rattle.live_roll.specs.declared.events.Event.{Event}
use Rattle.live_roll.specs.declared.events.Event.TheVariants.{Entered}
use Rattle.live_roll.specs.Events.{NoneAbove}
use Rattle.live_desk.specs.Seat.{SeatState}
use Rattle.door_frames.specs.declared.endings.Ended.{Ended}
use Rattle.client_door.specs.Answered.{Answered, IsRight, StandsIn}
use Rattle.client_door.specs.Serving.{ClientSide, Serves}
use Rattle.client_door.specs.Serving.Serves.{unbegun, refused, served}
use Rattle.desk_server.specs.Visit.{Visit, InTurn}
use Rattle.desk_server.specs.Clients.{VisitsClients}

-- The reply is the one that a state of the list gives, or an agent asked by that state.
abbrev pub IsOfList : List DeskState → Answered → Type 0
IsOfList published answered = IsRight answered × StandsIn answered.desk published

-- each reply of a connection
abbrev pub AllOfList : List DeskState → {ended : Ended} → {start now : ClientSide} → Serves ended start now → Type 0
AllOfList published (unbegun none tally marks idle) = Unit {0}
AllOfList published (refused refusal ended tally marks faults idle) = Unit {0}
AllOfList published (served connection) = AllByRecursion (IsOfList published) connection.talks.answered

-- each reply of each connection that a worker served, one after the other
abbrev pub EachOfList : {L : Type 0} → (traffic : L → Option Traffic) → (marks : L → LinkMarks) → (faults : L → ℕ)
    → List DeskState
    → (seat : SeatState) → (visits : List (Visit L)) → (seat_now : SeatState)
    → InTurn (VisitsClients traffic marks faults) seat visits seat_now → Type 0
EachOfList traffic marks faults published seat [] seat_now none = Unit {0}
EachOfList traffic marks faults published seat (visit ∷ more) seat_now
    (between, (silent, (tally, calls, serves)), rest) =
    AllOfList published serves × EachOfList traffic marks faults published between more seat_now rest

-- ---- where its connections entered

-- A connection stands in the roll's log as one that entered at this commit. Whoever was disconnected before it was so
-- for a commit no higher, and each of its replies is of a state no older.
pub record IsEntered (events : List Event) (entered : ℕ) (answered : List Answered) : Type 0 where
  pub front : List Event
  pub back : List Event
  pub entry : events ≡ front ++ Entered entered ∷ back
  pub above : NoneAbove front entered
  pub fresh : AllByRecursion (λ (one : Answered). entered ≤ one.desk.commit) answered

-- where the connection entered
abbrev pub AllEntered : List Event → {ended : Ended} → {start now : ClientSide} → Serves ended start now → Type 0
AllEntered events (unbegun none tally marks idle) = Unit {0}
AllEntered events (refused refusal ended tally marks faults idle) = Unit {0}
AllEntered events (served connection) = IsEntered events connection.entered connection.talks.answered

-- each connection that a worker served, one after the other
abbrev pub EachEntered : {L : Type 0} → (traffic : L → Option Traffic) → (marks : L → LinkMarks) → (faults : L → ℕ)
    → List Event
    → (seat : SeatState) → (visits : List (Visit L)) → (seat_now : SeatState)
    → InTurn (VisitsClients traffic marks faults) seat visits seat_now → Type 0
EachEntered traffic marks faults events seat [] seat_now none = Unit {0}
EachEntered traffic marks faults events seat (visit ∷ more) seat_now (between, (silent, (tally, calls, serves)), rest) =
    AllEntered events serves × EachEntered traffic marks faults events between more seat_now rest
