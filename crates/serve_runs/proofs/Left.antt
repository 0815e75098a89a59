-- What the workers of clients of a service have left, and what they began with.
use Rattle.std.proofs.Common.{◌≡◌, ◌++◌, ◌∷◌, ℕ, zero, suc, List, [], replicate, Option, Some, None, sym, subst}
use Rattle.std.specs.List.{AllZip}
use Rattle.std.specs.Option.{option_to_list}
use Rattle.link_ports.specs.Traffic.{Traffic}
use Rattle.link_ports.specs.LinkMarks.{LinkMarks}
use Rattle.link_ports.specs.declared.door_kinds.DoorKind.{DoorKind}
use Rattle.desk_state.specs.DeskState.{DeskState}
use Rattle.live_roll.specs.declared.events.Event.{Event}
use Rattle.live_desk.specs.Seat.{SeatState}
use Rattle.server_hall.specs.StopNews.{StopsTold}
use Rattle.desk_server.specs.Visit.{Visit, InTurn}
use Rattle.desk_server.specs.declared.workers.WorkerEnd.{WorkerEnd}
use Rattle.run_endings.specs.Outside.{DiskSeen}
use Rattle.run_endings.specs.declared.endings.Ending.{Ending}
use Rattle.serve_runs.specs.Pool.{EndedWorker, left_by, posts_with, WorksFor, Serves}
use Rattle.serve_runs.specs.Run.{RunsServe}
use Rattle.serve_runs.specs.Run.RunsServe.{refused, unopened, served}

module _ {S L E : Type 0} (seat_of : S → SeatState) (visits : S → Visit L → S → Type 0)
    (traffic : L → Option Traffic) (marks : L → LinkMarks) (faults : L → ℕ)
    (given_back : E → Option (List L)) (door_faults : E → ℕ) (kind : E → Option DoorKind) where
  -- what a worker of clients made of what it began with
  abbrev pub CameTo : S → S → Type 0
  CameTo start now = (connections : List (Visit L)) × InTurn visits start connections now

  module _ (published : List DeskState) (events : List Event) where
    abbrev For : Option S → Option S → WorkerEnd → StopsTold → Option (List L) → E → Type 0
    For = WorksFor seat_of visits traffic marks faults given_back door_faults kind published events

    abbrev Pool : List (Option S) → List (EndedWorker S E) → Type 0
    Pool = AllZip (Serves seat_of visits traffic marks faults given_back door_faults kind published events)

    one_left : (start : S) (left : Option S) (end : WorkerEnd) (told : StopsTold) (given : Option (List L)) (door : E)
        (starts states : List S) → For (Some start) left end told given door → AllZip CameTo starts states
        → AllZip CameTo (start ∷ starts) (option_to_list left ++ states)
    one_left start (Some now) end told given door starts states (saw, known, works) all = ((works.visits, works.in_turn), all)
    one_left start None end told given door starts states works all = absurd works

    no_left : (left : Option S) (end : WorkerEnd) (told : StopsTold) (given : Option (List L)) (door : E) (states : List S)
        → For None left end told given door → AllZip CameTo [] states → AllZip CameTo [] (option_to_list left ++ states)
    no_left None end told given door states works all = all
    no_left (Some now) end told given door states works all = absurd works

    none_left : (count : ℕ) (pool : List (EndedWorker S E)) → Pool (replicate count None) pool → AllZip CameTo [] (left_by pool)
    none_left zero [] all = tt
    none_left zero (w ∷ pool) all = absurd all
    none_left (suc count) [] all = absurd all
    none_left (suc count) (w ∷ pool) (serves, all) =
        no_left w.left w.end serves.told serves.given w.door (left_by pool) serves.works (none_left count pool all)

    each_left : (starts : List S) (pool : List (EndedWorker S E)) → Pool (posts_with starts) pool → AllZip CameTo starts (left_by pool)
    each_left [] pool all = none_left 9 pool all
    each_left (start ∷ starts) [] all = absurd all
    each_left (start ∷ starts) (w ∷ pool) (serves, all) =
        one_left start w.left w.end serves.told serves.given w.door starts (left_by pool) serves.works (each_left starts pool all)

  -- where there was a service
  pub all_left : (starts : List S) (left : Option (List S)) (states : List S) (ending : Ending) (before after : DiskSeen) (net net_now : ℕ)
      (closed closed_now : Option (List E)) → left ≡ Some states
      → RunsServe seat_of visits traffic marks faults given_back door_faults kind starts left ending before after net net_now closed closed_now
      → AllZip CameTo starts states
  all_left starts left states ending before after net net_now closed closed_now is (refused none folder counted same doors) =
      let wrong : ⊥ = cc in absurd wrong
  all_left starts left states ending before after net net_now closed closed_now is (unopened none start keeps counted ends doors) =
      let wrong : ⊥ = cc in absurd wrong
  all_left starts left states ending before after net net_now closed closed_now is (served start serves left_is keeps) =
      let same : left_by serves.pool ≡ states = cc in
      subst (λ (list : List S). AllZip CameTo starts list) same (each_left serves.last.published serves.events starts serves.pool serves.serves)
