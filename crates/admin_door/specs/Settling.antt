-- What an earlier command left undone is settled.
use Rattle.std.specs.Prelude.{◌≡◌, ◌⊎◌, ◌≤◌, ℕ, true, false, nat_lt, if◌then◌else◌, List, [], ◌∷◌, Option, Ok, Err}
use Rattle.desk_ports.specs.Disk.{DiskState, WhereTold}
use Rattle.desk_state.specs.DeskState.{DeskState}
use Rattle.desk_keeper.specs.Kept.{kept}
use Rattle.desk_keeper.specs.Keeping.{IsOlder}
use Rattle.live_desk.specs.History.{last_commit}
use Rattle.server_hall.specs.Tally.{Tally}
use Rattle.wire_fields.specs.declared.messages.Message.{Message}
use Rattle.wire_fields.specs.declared.messages.Message.TheVariants.{StoreDamaged as StoreDamagedReply}
use Rattle.admin_door.specs.Side.{AdminSide, with_shown, with_fault}
use Rattle.desk_keeper.specs.declared.refusals.KeeperRefusal.{KeeperRefusal}
use Rattle.desk_keeper.specs.declared.refusals.KeeperRefusal.TheVariants.{StoreFault, Damaged, Memory}

-- It is known what the folder keeps: the same as before, or what was found in it, which is no older.
pub record IsFound (told : Option DiskState) (old now : AdminSide) : Type 0 where
  pub decided : now.decided ≡ true
  pub last : old.decided ≡ true → now.desk ≡ old.desk
  pub found : old.decided ≡ false → WhereTold told (λ before. kept before.current ≡ Ok now.desk)
  pub no_older : old.desk.commit ≤ now.desk.commit
  -- and nothing else was done
  pub rest : now ≡ record old { desk = now.desk; decided = now.decided }

-- A state that is kept is shown to all: it is published, and all older connections are hung up, where it is newer than
-- what was published.
abbrev pub with_last_shown : AdminSide → AdminSide
with_last_shown side =
    if nat_lt (last_commit 0 side.published) side.desk.commit then with_shown side.desk side else side

-- It is known what the folder keeps, and that is shown to all.
pub record Settles (told : Option DiskState) (old now : AdminSide) : Type 0 where
  pub found : AdminSide
  pub is_found : IsFound told old found
  pub shown : now ≡ with_last_shown found

-- Nothing was published behind this commit, or all connections are hung up that entered before what was published last.
abbrev pub IsHungFor : ℕ → List DeskState → Tally → Type 0
IsHungFor before published tally = (last_commit 0 published ≡ before) ⊎ (tally.cleared ≡ last_commit 0 published)

-- Why it is not settled: a call of the disk failed; the folder stands for no policy state, or for an older one; or for
-- want of memory, before or after it was found what the folder keeps.
abbrev pub Unsettles : Option DiskState → AdminSide → AdminSide → KeeperRefusal → Type 0
Unsettles told old now StoreFault = (old.decided ≡ false) × (now ≡ with_fault old)
Unsettles told old now (Damaged file line) = (old.decided ≡ false) × (now ≡ old)
    × WhereTold told (λ before. (kept before.current ≡ Err (record { file = file; line = line }))
    ⊎ IsOlder old.desk before.current (record { file = file; line = line }))
Unsettles told old now (Memory error) = (now ≡ old) ⊎ IsFound told old now

-- memory was wanting, and nothing else
abbrev pub LacksMemoryAlone : KeeperRefusal → Type 0
LacksMemoryAlone StoreFault = ⊥
LacksMemoryAlone (Damaged file line) = ⊥
LacksMemoryAlone (Memory error) = Unit {0}

-- ---- what is read behind it

-- the folder reads as damaged in this file and line, or as an older state than this one
abbrev pub ReadsDamaged : DeskState → Option DiskState → List ℕ → ℕ → Type 0
ReadsDamaged last told file line =
    WhereTold told (λ after. (kept after.current ≡ Err (record { file = file; line = line }))
    ⊎ IsOlder last after.current (record { file = file; line = line }))

-- a damage that was found stands still
abbrev pub IsStillDamaged : DeskState → Option DiskState → KeeperRefusal → Type 0
IsStillDamaged last told StoreFault = Unit {0}
IsStillDamaged last told (Damaged file line) = ReadsDamaged last told file line
IsStillDamaged last told (Memory error) = Unit {0}

-- a command that is answered so leaves a folder that reads so
abbrev pub TellsDamage : DeskState → Option DiskState → List Message → Type 0
TellsDamage last told replies = (file : List ℕ) (line : ℕ) → replies ≡ StoreDamagedReply file line ∷ []
    → ReadsDamaged last told file line
