-- What a connection of an administrator is served with.
use Rattle.std.specs.Prelude.{◌≤◌, ◌&&◌, ℕ, Bool, true, false, List, [], ◌∷◌, ◌++◌, Option}
use Rattle.desk_ports.specs.Faults.{next_count}
use Rattle.desk_state.specs.DeskState.{DeskState}
use Rattle.desk_keeper.specs.declared.keeper.Keeper.{Keeper}
use Rattle.live_desk.specs.History.{last_commit}
use Rattle.server_hall.specs.Tally.{Tally, after_hang, after_stop}
use Rattle.server_hall.specs.declared.calls.HallCall.{HallCall}

-- the last state that is known to be kept, and whether it is known what the folder keeps now; the states that were
-- published; the hall's tally and calls; and the count of the disk's faults
pub record AdminSide : Type 0 where
  pub desk : DeskState
  pub decided : Bool
  pub published : List DeskState
  pub tally : Tally
  pub calls : Option (List HallCall)
  pub faults : ℕ

-- whether it is known what the folder of a keeper keeps
abbrev pub decided_of : {D : Type 0} → Keeper D → Bool
decided_of keeper = keeper.read && keeper.vault.decided

-- by what a keeper's disk counts, the keeper, the published states, and the hall's tally and calls
abbrev pub side_of : {D : Type 0} → (D → ℕ) → Keeper D → List DeskState → Tally → Option (List HallCall) → AdminSide
side_of faults keeper published tally calls = record {
  desk = keeper.desk;
  decided = decided_of keeper;
  published = published;
  tally = tally;
  calls = calls;
  faults = faults keeper.vault.disk.now;
}

-- nothing was published that is newer than what is kept
abbrev pub IsBehind : AdminSide → Type 0
IsBehind side = last_commit 0 side.published ≤ side.desk.commit

-- ---- what a step leaves

-- the folder keeps this state, and it is known
abbrev pub with_kept : DeskState → AdminSide → AdminSide
with_kept desk side = record side { desk = desk; decided = true }

-- the state is published behind the others, and then all connections that entered before it are hung up
abbrev pub with_shown : DeskState → AdminSide → AdminSide
with_shown desk side =
    record side { published = side.published ++ desk ∷ []; tally = after_hang desk.commit side.tally }

-- a call of the disk failed, and it is not known what the folder keeps
abbrev pub with_fault : AdminSide → AdminSide
with_fault side = record side { decided = false; faults = next_count side.faults }

-- the service is stopped
abbrev pub with_stop : AdminSide → AdminSide
with_stop side = record side { tally = after_stop side.tally }
