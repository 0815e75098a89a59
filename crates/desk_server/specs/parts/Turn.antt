-- The state of a worker between two connections.
use Rattle.std.specs.Prelude.{◌≡◌, ◌⊎◌, ℕ, List, Option, Result, MatchResult}
use Rattle.std.specs.List.{AllByRecursion}
use Rattle.link_ports.specs.LinkMarks.{LinkMarks}
use Rattle.desk_ports.specs.FileMap.{FileMap}
use Rattle.desk_ports.specs.Disk.{DiskState}
use Rattle.link_ports.specs.Traffic.{Traffic}
use Rattle.desk_state.specs.DeskState.{DeskState}
use Rattle.desk_keeper.specs.declared.keeper.Keeper.{Keeper}
use Rattle.admin_door.specs.Serving.{Exchange}
use Rattle.admin_door.specs.Running.{RunsOver}
use Rattle.admin_door.specs.Hanging.{AreHung}
use Rattle.live_roll.specs.declared.events.Event.{Event}
use Rattle.server_hall.specs.StopNews.{StopsTold}
use Rattle.desk_server.specs.Visit.{Visit, IsFresh, InTurn, GivesBack, GoesOnTold, Works, door_faults_after}
use Rattle.desk_server.specs.Administrators.{AdminState, admin_state_of, VisitsAdministrators, EndsAdministrators}
use Rattle.desk_server.specs.declared.workers.WorkerEnd.{WorkerEnd}
use Rattle.desk_server.specs.declared.workers.WorkerEnd.TheVariants.{DoorFailed, Memory}

-- what a worker has done so far, that goes on
pub record SoFar {S L : Type 0} (step : S → Visit L → S → Type 0) (goes : List (Visit L) → Type 0)
    (marks : L → LinkMarks) (faults : L → ℕ)
    (start now : S) (given given_now : Option (List L)) (count count_now : ℕ) : Type 0 where
  pub visits : List (Visit L)
  pub fresh : AllByRecursion (IsFresh marks faults) visits
  pub in_turn : InTurn step start visits now
  pub go_on : goes visits
  pub given_back : GivesBack given visits given_now
  pub counted : count_now ≡ count

-- a door accepts no link
abbrev pub RefusesLink : WorkerEnd → ℕ → ℕ → Type 0
RefusesLink end count count_now =
    ((end ≡ DoorFailed) ⊎ (end ≡ Memory)) × (count_now ≡ door_faults_after end count)

-- ---- administrators

module _ {D L : Type 0} (faults : D → ℕ) (state : D → Option DiskState) (moment : D → ℕ)
    (left_since : D → ℕ → FileMap → Type 0)
    (traffic : L → Option Traffic) (marks : L → LinkMarks) (link_faults : L → ℕ) where
  -- Since the first keeper their worker has done so much, and goes on; and what a stop may leave in the folder is told
  -- of the frames that came, and which disconnects stand in a front of the roll's log.
  abbrev pub HoldsAdminState : Keeper D → AdminState → Option (List L) → ℕ → StopsTold → Keeper D → List DeskState
      → Option (List L) → ℕ
      → StopsTold → List Event → Type 0
  HoldsAdminState first start given count told keeper published given_now count_now told_now hangs =
      (frames : List Exchange)
      × SoFar (VisitsAdministrators traffic marks link_faults) (GoesOnTold told told_now) marks link_faults start
      (admin_state_of faults keeper published frames)
      given given_now count count_now
      × RunsOver state moment left_since first keeper frames × AreHung hangs frames

  -- the same, and it has ended so
  abbrev pub EndsHolding : WorkerEnd → Keeper D → AdminState → Option (List L) → ℕ → StopsTold → Keeper D
      → List DeskState
      → Option (List L) → ℕ → StopsTold → List Event → Type 0
  EndsHolding end first start given count told keeper published given_now count_now told_now hangs =
      (frames : List Exchange)
      × Works (VisitsAdministrators traffic marks link_faults)
      (EndsAdministrators told told_now) marks link_faults end start
      (admin_state_of faults keeper published frames) given given_now count count_now
      × RunsOver state moment left_since first keeper frames × AreHung hangs frames

  -- from wherever it began, it goes on or has ended behind one more connection
  abbrev pub TurnsAdminState : Result (Unit {0}) WorkerEnd → Keeper D → List DeskState → Option (List L) → ℕ → StopsTold
      → List Event
      → Keeper D
      → List DeskState → Option (List L) → ℕ → StopsTold → List Event → Type 0
  TurnsAdminState result keeper published given_old count_old told_old hangs keeper_now published_now given_now
      count_now
      told_now hangs_now =
      (first : Keeper D) (start : AdminState) (given : Option (List L)) (count : ℕ) (told : StopsTold)
      → HoldsAdminState first start given count told keeper published given_old count_old told_old hangs
      → MatchResult result
      (λ done. HoldsAdminState first start given count told keeper_now published_now given_now count_now told_now
      hangs_now)
      (λ end. EndsHolding end first start given count told keeper_now published_now given_now count_now told_now
      hangs_now)
