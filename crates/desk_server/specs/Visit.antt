-- The connections that a worker serves, one after the other.
use Rattle.std.specs.Prelude.{◌≡◌, ◌⊎◌, ℕ, List, [], ◌∷◌, ◌++◌, map, Option, Some}
use Rattle.std.specs.List.{AllByRecursion}
use Rattle.desk_ports.specs.Faults.{next_count}
use Rattle.link_ports.specs.LinkMarks.{LinkMarks, fresh_marks}
use Rattle.link_ports.specs.Told.{IfTold}
use Rattle.server_hall.specs.StopNews.{StopsTold, told_on, told_stop}
use Rattle.door_frames.specs.declared.endings.Ended.{Ended}
use Rattle.door_frames.specs.declared.endings.Ended.TheVariants.{Stopped as EndedByStop}
use Rattle.desk_server.specs.declared.workers.WorkerEnd.{WorkerEnd}
use Rattle.desk_server.specs.declared.workers.WorkerEnd.TheVariants.{Stopped, DoorFailed, Alone, Unstarted}

-- a connection: its link as the door accepted it, and as it was given back to the door; and how it ended
pub record Visit (L : Type 0) : Type 0 where
  pub accepted : L
  pub returned : L
  pub ended : Ended

-- no call of the link has failed, no hang end was taken from it, and it bears no mark
abbrev pub IsFresh : {L : Type 0} → (L → LinkMarks) → (L → ℕ) → Visit L → Type 0
IsFresh marks faults visit = (marks visit.accepted ≡ fresh_marks) × (faults visit.accepted ≡ 0)

-- the connections were served one after the other, each from what the one before it left
abbrev pub InTurn : {S L : Type 0} → (S → Visit L → S → Type 0) → S → List (Visit L) → S → Type 0
InTurn step start [] now = now ≡ start
InTurn {S} step start (visit ∷ more) now = (between : S) × step start visit between × InTurn step between more now

-- these links were given back behind those that were there before, where the door still tells them
abbrev pub GivesBack : {L : Type 0} → Option (List L) → List (Visit L) → Option (List L) → Type 0
GivesBack {L} old visits new = IfTold new (λ after. (before : List L)
    × (old ≡ Some before) × (after ≡ before ++ map (λ (visit : Visit L). visit.returned) visits))

-- the connection did not end for a stop of the service
abbrev pub GoesOn : Ended → Type 0
GoesOn EndedByStop = ⊥
GoesOn ended = Unit {0}

abbrev pub AllGoOn : {L : Type 0} → List (Visit L) → Type 0
AllGoOn {L} visits = AllByRecursion (λ (visit : Visit L). GoesOn visit.ended) visits

-- the count of a door whose worker ended so: one `accept` failed where it ended for that, and else none
abbrev pub door_faults_after : WorkerEnd → ℕ → ℕ
door_faults_after DoorFailed count = next_count count
door_faults_after end count = count

-- ---- a worker that asks whether the service is stopped

-- It goes on behind a connection that did not end for a stop, once it is told that the service is not stopped.
abbrev pub IsNotOver : Ended → StopsTold → StopsTold → Type 0
IsNotOver ended told told_now = GoesOn ended × (told_now ≡ told_on told)

-- It is over behind a connection that ended for a stop, or where it is told that the service is stopped.
abbrev pub IsOver : Ended → StopsTold → StopsTold → Type 0
IsOver ended told told_now =
    ((ended ≡ EndedByStop) × (told_now ≡ told)) ⊎ (GoesOn ended × (told_now ≡ told_stop told))

-- it was told that it is not, behind each of so many connections
abbrev pub told_each : {L : Type 0} → List (Visit L) → StopsTold → StopsTold
told_each [] told = told
told_each (visit ∷ more) told = told_each more (told_on told)

-- it went on behind all of them
abbrev pub GoesOnTold : {L : Type 0} → StopsTold → StopsTold → List (Visit L) → Type 0
GoesOnTold told told_now visits = AllGoOn visits × (told_now ≡ told_each visits told)

-- A worker that serves until the service is stopped ends as stopped exactly behind the first connection where that is
-- over. Else its door accepts none; or it was not started, and served none.
abbrev pub EndsWorking : {L : Type 0} → StopsTold → StopsTold → WorkerEnd → List (Visit L) → Type 0
EndsWorking {L} told told_now Stopped visits = (front : List (Visit L)) × (last : Visit L)
    × (visits ≡ front ++ last ∷ []) × AllGoOn front × IsOver last.ended (told_each front told) told_now
EndsWorking told told_now Unstarted visits = (visits ≡ []) × (told_now ≡ told)
EndsWorking told told_now Alone visits = ⊥
EndsWorking told told_now end visits = GoesOnTold told told_now visits

-- What a worker did, with a step for each connection, and what its end says of them.
pub record Works {S L : Type 0} (step : S → Visit L → S → Type 0) (ends : WorkerEnd → List (Visit L) → Type 0)
    (marks : L → LinkMarks) (faults : L → ℕ)
    (end : WorkerEnd) (start now : S) (given given_now : Option (List L)) (count count_now : ℕ) : Type 0 where
  pub visits : List (Visit L)
  pub fresh : AllByRecursion (IsFresh marks faults) visits
  pub in_turn : InTurn step start visits now
  pub ending : ends end visits
  pub given_back : GivesBack given visits given_now
  pub counted : count_now ≡ door_faults_after end count
