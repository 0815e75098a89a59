-- Which maps a stop may have left, at any moment since an earlier one. Moments are numbers that don't fall.
use Rattle.std.specs.Prelude.{◌⊎◌, ◌≤◌, ℕ}
use Rattle.desk_ports.specs.FileMap.{FileMap}
use Rattle.desk_ports.specs.Disk.{DiskState, MayLeave}

-- Time goes on over a call: a stop since `t` may have left what it may have left before the call, or what a stop may
-- leave after it. Nothing of before is forgotten.
pub record Elapses (before now : ℕ) (past since : ℕ → FileMap → Type 0) (state : DiskState) : Type 0 where
  pub later : before ≤ now
  pub nothing_else : (t : ℕ) (left : FileMap) → t ≤ before → since t left → past t left ⊎ MayLeave state left
  pub keeps : (t : ℕ) (left : FileMap) → t ≤ before → past t left → since t left

-- From the moment of the first disk to that of the second, no map that a stop may have left is new but such maps. The
-- word holds over no call, over one call after which a stop leaves such maps alone, and over calls in a row.
pub record AddsOnly {D : Type 0} (moment : D → ℕ) (left_since : D → ℕ → FileMap → Type 0) (old new : D)
    (P : FileMap → Type 0) : Type 0 where
  pub later : moment old ≤ moment new
  pub nothing_else : (t : ℕ) (left : FileMap) → t ≤ moment old → left_since new t left → left_since old t left ⊎ P left

-- A stop at any moment from that of the first disk to that of the second leaves such a map alone.
pub record LeavesOnly {D : Type 0} (moment : D → ℕ) (left_since : D → ℕ → FileMap → Type 0) (old new : D)
    (P : FileMap → Type 0) : Type 0 where
  pub each : (left : FileMap) → left_since new (moment old) left → P left
  -- for a run that began earlier
  pub adds : AddsOnly moment left_since old new P
