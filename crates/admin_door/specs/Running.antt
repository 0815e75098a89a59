-- What a stop at any moment of a connection may leave in the folder, and what the folder keeps behind it.
use Rattle.std.specs.Prelude.{◌≡◌, ◌≤◌, ◌⊎◌, ℕ, List, [], ◌∷◌, ◌++◌, Option, Some, None, Ok}
use Rattle.desk_ports.specs.FileMap.{FileMap}
use Rattle.desk_ports.specs.Disk.{DiskState, MayLeave, WhereTold}
use Rattle.desk_ports.specs.Moments.{LeavesOnly}
use Rattle.desk_state.specs.DeskState.{DeskState}
use Rattle.desk_state.specs.Next.{next}
use Rattle.desk_state.specs.Rules.{fault}
use Rattle.desk_state.specs.declared.commands.Command.{Command}
use Rattle.desk_keeper.specs.Kept.{Standing, standing}
use Rattle.desk_keeper.specs.Keeper.{disk_of, held_of}
use Rattle.desk_keeper.specs.declared.keeper.Keeper.{Keeper}
use Rattle.wire_messages.specs.Commands.{command_of}
use Rattle.wire_fields.specs.declared.messages.Message.{Message}
use Rattle.wire_fields.specs.declared.messages.Message.TheVariants.{Done}
use Rattle.admin_door.specs.Side.{decided_of}
use Rattle.admin_door.specs.Stops.{KeepsKnown}
use Rattle.admin_door.specs.Serving.{Exchange}

-- ---- one frame

-- The state that was found accepts the message's command, which makes this one of it.
pub record Makes (found : Standing) (message : Message) (after : DeskState) : Type 0 where
  pub desk : DeskState
  pub command : Command
  pub stood : found ≡ Ok desk
  pub asks : command_of message ≡ Some command
  pub accepted : fault desk command ≡ None
  pub makes : after ≡ next desk command

-- no command was answered as done
abbrev pub IsNotDone : Exchange → Type 0
IsNotDone exchange = (command : Command) (commit erased : ℕ) → command_of exchange.framed.message ≡ Some command
    → exchange.replies ≡ Done commit erased ∷ [] → ⊥

-- what is answered as done is told the commit of this state
abbrev pub TellsCommit : Exchange → DeskState → Type 0
TellsCommit exchange after = (commit erased : ℕ) → exchange.replies ≡ Done commit erased ∷ [] → commit ≡ after.commit

-- Behind the frame its command was applied or was not; where it was answered as done, it was.
abbrev pub IsBehind : Standing → Exchange → Standing → Type 0
IsBehind found exchange left = (IsNotDone exchange × (left ≡ found))
    ⊎ ((after : DeskState) × Makes found exchange.framed.message after × TellsCommit exchange after × (left ≡ Ok after))

-- while it is answered, its command was applied or was not
abbrev pub IsUnderWay : Standing → Exchange → Standing → Type 0
IsUnderWay found exchange left =
    (left ≡ found) ⊎ ((after : DeskState) × Makes found exchange.framed.message after × (left ≡ Ok after))

-- ---- frames in turn

-- behind all of these frames
abbrev pub LeadsTo : Standing → List Exchange → Standing → Type 0
LeadsTo found [] left = left ≡ found
LeadsTo found (exchange ∷ more) left =
    (between : Standing) × IsBehind found exchange between × LeadsTo between more left

-- behind the first few of them, or while the one behind those is answered
abbrev pub LeadsWithin : Standing → List Exchange → Standing → Type 0
LeadsWithin found [] left = left ≡ found
LeadsWithin found (exchange ∷ more) left = IsUnderWay found exchange left
    ⊎ ((between : Standing) × IsBehind found exchange between × LeadsWithin between more left)

-- a policy state with this commit or a later one
abbrev pub HasCommit : ℕ → Standing → Type 0
HasCommit commit left = (desk : DeskState) × (left ≡ Ok desk) × (commit ≤ desk.commit)

-- ---- the folder

-- The map stands for what the first of the frames made of what a stop at this state may leave, and then the first few
-- of the frames behind them, or the one that was answered then.
abbrev pub StandsSince : DiskState → List Exchange → List Exchange → FileMap → Type 0
StandsSince before front back left = (other : FileMap) × (between : Standing) × MayLeave before other
    × LeadsTo (standing other) front between × LeadsWithin between back (standing left)

-- the map stands for what all of the frames made of what a stop at this state may leave
abbrev pub StandsBehind : DiskState → List Exchange → FileMap → Type 0
StandsBehind before exchanges left =
    (other : FileMap) × MayLeave before other × LeadsTo (standing other) exchanges (standing left)

-- the frames lead to this policy state from the one that was known last, or from what a stop at this state may leave
abbrev pub ComesFrom : DiskState → DeskState → List Exchange → DeskState → Type 0
ComesFrom before last exchanges now = LeadsTo (Ok last) exchanges (Ok now)
    ⊎ ((other : FileMap) × MayLeave before other × LeadsTo (standing other) exchanges (Ok now))

-- What the disk told before a frame: what is read then is what a stop may leave, and each map that a stop may leave
-- then stands for what the frames in front of it made of what a stop at the first state may leave.
pub record IsToldBehind (before : DiskState) (front : List Exchange) (told : Option DiskState) : Type 0 where
  pub found : DiskState
  pub told_is : told ≡ Some found
  pub read : MayLeave found found.current
  pub behind : (left : FileMap) → MayLeave found left → StandsBehind before front left

-- each of these frames came over a disk that told such a state
abbrev pub TellsEach : DiskState → List Exchange → Type 0
TellsEach before exchanges = (front back : List Exchange) (exchange : Exchange) → exchanges ≡ front ++ exchange ∷ back
    → IsToldBehind before front exchange.told

-- the first few of the frames lead to this policy state
abbrev pub IsReached : DiskState → DeskState → List Exchange → DeskState → Type 0
IsReached before last exchanges desk =
    (front : List Exchange) × (back : List Exchange) × (exchanges ≡ front ++ back) × ComesFrom before last front desk

-- These frames were answered between two keepers, over a disk that told this state before them.
pub record KeepsThrough {D : Type 0} (state : D → Option DiskState) (moment : D → ℕ)
    (left_since : D → ℕ → FileMap → Type 0)
    (start now : Keeper D) (before : DiskState) (exchanges : List Exchange) : Type 0 where
  -- what the disk tells behind them
  pub after : DiskState
  pub told : state (disk_of now) ≡ Some after
  -- what a stop may leave: at any moment of the call, and behind it
  pub leaves : LeavesOnly moment left_since (disk_of start) (disk_of now) (StandsSince before [] exchanges)
  pub behind : (left : FileMap) → MayLeave after left → StandsBehind before exchanges left
  -- From some moment on, the last at the latest, the first of the frames are answered, and no stop leaves what stood
  -- before them.
  pub since : (front back : List Exchange) → exchanges ≡ front ++ back
      → (at : ℕ) × (moment (disk_of start) ≤ at) × (at ≤ moment (disk_of now))
      × ((left : FileMap) → left_since (disk_of now) at left → StandsSince before front back left)
  -- what the disk told before each of them
  pub tells : TellsEach before exchanges
  -- the last policy state that is known, and whether the folder keeps it
  pub desk : ComesFrom before start.desk exchanges now.desk
  pub known : KeepsKnown (decided_of now) now.desk (held_of now) after

-- The same, where the disk told its state, and the folder kept the policy state if that was known.
abbrev pub RunsOver : {D : Type 0} → (D → Option DiskState) → (D → ℕ) → (D → ℕ → FileMap → Type 0) → Keeper D → Keeper D
    → List Exchange → Type 0
RunsOver state moment left_since start now exchanges =
    WhereTold (state (disk_of start)) (λ before. KeepsKnown (decided_of start) start.desk (held_of start) before
    → KeepsThrough state moment left_since start now before exchanges)
