-- The roll of connections that a commit must hang up.
use Rattle.std.specs.Prelude.{◌≡◌, ℕ, max, nat_lt, Bool, true, false, if◌then◌else◌, List, [], ◌∷◌, ◌++◌, length}
use Rattle.std.specs.Prelude.{slice_set, get_or, Option, Some, None}
use Rattle.std.specs.List.{AllByRecursion}
use Rattle.live_roll.specs.declared.answers.Left.{Left}
use Rattle.live_roll.specs.declared.answers.Left.TheVariants.{Still, Hung as LeftHung, Stopped}
use Rattle.live_roll.specs.declared.entries.Entry.{Entry}
use Rattle.live_roll.specs.declared.events.Event.{Event}
use Rattle.live_roll.specs.declared.events.Event.TheVariants.{Entered, Hung}
use Rattle.live_roll.specs.Events.{hung_to, EnterAbove}
use Rattle.live_roll.specs.Places.{IsLeft, IsClosed, IsCurrent, AreHungUp, AreHungBelow, IsVacant}

-- how many workers serve, the commit at which a connection enters now, whether the roll was stopped, the places of the
-- seats in turn, the commit at which the roll was opened, and what has happened since
pub record RollState (H : Type 0) : Type 0 where
  pub workers : ℕ
  pub note : ℕ
  pub is_stopped : Bool
  pub places : List (Option (Entry H))
  pub opened : ℕ
  pub events : List Event

-- what every roll keeps
pub record IsRoll {H : Type 0} (used : H → Bool) (roll : RollState H) : Type 0 where
  pub count : length roll.places ≡ 64
  -- each end in it that is not hung up entered at its note
  pub current : AllByRecursion (IsCurrent used roll.note) roll.places
  -- each end in a stopped roll is hung up
  pub ended : roll.is_stopped ≡ true → AllByRecursion (IsClosed used) roll.places
  -- the note is the greatest commit for which connections were hung up, or that at which it was opened
  pub noted : roll.note ≡ hung_to roll.opened roll.events
  -- and none entered below what the note was then
  pub above : EnterAbove roll.opened roll.events

-- a roll in which nothing stands, for so many workers, whose note is this commit
pub record IsNew {H : Type 0} (commit workers : ℕ) (roll : RollState H) : Type 0 where
  pub for_workers : roll.workers ≡ workers
  pub note : roll.note ≡ commit
  pub running : roll.is_stopped ≡ false
  pub vacant : IsVacant roll.places
  pub opened : roll.opened ≡ commit
  pub quiet : roll.events ≡ []

-- an end enters in the place of a seat, at the note, and so the log says
abbrev pub with_entry : {H : Type 0} → ℕ → H → RollState H → RollState H
with_entry seat end roll = record roll {
  places = slice_set roll.places seat (Some (record { end = end; entered = roll.note; has_left = false }));
  events = roll.events ++ Entered roll.note ∷ [];
}

-- what is told to a connection that entered at this commit and leaves
abbrev pub left_of : {H : Type 0} → ℕ → RollState H → Left
left_of entered roll =
    if nat_lt entered roll.note then LeftHung roll.note else if roll.is_stopped then Stopped roll.note else Still

-- what stands in the place of a seat is hung up, and its connection has left
abbrev pub LeavesPlace : {H : Type 0} → (H → Bool) → ℕ → RollState H → RollState H → Type 0
LeavesPlace {H} used seat roll now = (place : Option (Entry H))
    × IsLeft used (get_or roll.places seat None) place
    × (now ≡ record roll { places = slice_set roll.places seat place })

-- the note is at least this commit, the ends that entered below the note are hung up, and the log says so of this
-- commit
pub record HangsTo {H : Type 0} (used : H → Bool) (commit : ℕ) (roll now : RollState H) : Type 0 where
  pub workers : now.workers ≡ roll.workers
  pub note : now.note ≡ max roll.note commit
  pub running : now.is_stopped ≡ roll.is_stopped
  pub hung : AreHungBelow used now.note roll.places now.places
  pub opened : now.opened ≡ roll.opened
  pub events : now.events ≡ roll.events ++ Hung commit ∷ []

-- nobody enters any more, and all ends are hung up
pub record StopsAll {H : Type 0} (used : H → Bool) (roll now : RollState H) : Type 0 where
  pub workers : now.workers ≡ roll.workers
  pub note : now.note ≡ roll.note
  pub stopped : now.is_stopped ≡ true
  pub hung : AreHungUp used roll.places now.places
  pub opened : now.opened ≡ roll.opened
  pub events : now.events ≡ roll.events
