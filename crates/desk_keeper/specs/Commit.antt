-- A commit that is prepared.
use Rattle.std.specs.Prelude.{ℕ}
use Rattle.desk_state.specs.DeskState.{DeskState}
use Rattle.guard_files.specs.Settled.{Save}

pub record Commit : Type 0 where
  -- the commit number of the state before
  pub base : ℕ
  -- how many policies it erases
  pub erased : ℕ
  -- the state after it
  pub desk : DeskState
  -- the files of that state, and the names of files that go
  pub save : Save
