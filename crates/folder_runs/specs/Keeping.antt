-- What a part of a run leaves in the folder whose keeper it is lent.
use Rattle.std.specs.Prelude.{◌≡◌, ◌⊎◌, ℕ, List, Option, Result, Ok, Err}
use Rattle.desk_ports.specs.FileMap.{FileMap}
use Rattle.desk_ports.specs.Disk.{DiskState}
use Rattle.desk_ports.specs.Moments.{LeavesOnly}
use Rattle.desk_ports.specs.declared.file_sets.SetFile.{SetFile}
use Rattle.desk_state.specs.DeskState.{DeskState}
use Rattle.desk_keeper.specs.Keeping.{EndsKept, IsBeforeOrAfter}
use Rattle.line_script.specs.declared.steps.Step.{Step}
use Rattle.folder_runs.specs.Folder.{StandsWithin, EndsOver}
use Rattle.run_endings.specs.Ending.{disk_faults_after}
use Rattle.run_endings.specs.declared.endings.Ending.{Ending}
use Rattle.run_endings.specs.declared.endings.Ending.TheVariants.{Disk}

-- the count of the disk's faults behind a phase of a run: one call failed where it stopped so, and else none
abbrev pub counts_disk : {A : Type 0} → Result A Ending → ℕ → ℕ
counts_disk (Err ending) count = disk_faults_after ending count
counts_disk (Ok value) count = count

-- where no call of the disk failed
abbrev pub UnlessDisk : {A : Type 0} → Result A Ending → Type 0 → Type 0
UnlessDisk (Err Disk) P = Unit {0}
UnlessDisk outcome P = P

-- A disk with a keeper, before and after: the state that the keeper gives, and the set that its folder holds.
module _ {D : Type 0} (state : D → Option DiskState) (moment : D → ℕ) (left_since : D → ℕ → FileMap → Type 0)
    (old new : D) (desk : DeskState) (held : Option (List SetFile)) where
  -- what a script leaves of a folder that keeps the state at which it begins
  abbrev pub KeepsSteps : Ending → List Step → List Step → Type 0
  KeepsSteps ending answered steps =
      EndsKept desk held (state old)
      → EndsOver ending desk answered steps (state new) × LeavesOnly moment left_since old new (StandsWithin desk steps)

  -- a commit that failed: a stop meanwhile leaves what stands for the state before or for this one
  abbrev pub FailsToCommit : DeskState → Type 0
  FailsToCommit next = EndsKept desk held (state old) → LeavesOnly moment left_since old new (IsBeforeOrAfter desk next)

  module _ (now : DeskState) (now_held : Option (List SetFile)) where
    -- nothing was done
    abbrev pub StandsStill : Type 0
    StandsStill = (new ≡ old) × (now ≡ desk) × (now_held ≡ held)

    -- a state was committed: the same, and the folder then keeps it
    abbrev pub Commits : Type 0
    Commits =
        EndsKept desk held (state old)
        → EndsKept now now_held (state new) × LeavesOnly moment left_since old new (IsBeforeOrAfter desk now)

    -- what a part of a run does, where this is the state whose commit may have failed
    abbrev pub Moves : {A : Type 0} → DeskState → Result A Ending → Type 0
    Moves tried (Ok value) = StandsStill ⊎ Commits
    Moves tried (Err Disk) = FailsToCommit tried
    Moves tried (Err ending) = StandsStill

    -- these steps were done, and the folder keeps the state behind them
    abbrev pub KeepsSoFar : List Step → Type 0
    KeepsSoFar steps =
        EndsKept desk held (state old)
        → EndsKept now now_held (state new) × LeavesOnly moment left_since old new (StandsWithin desk steps)
