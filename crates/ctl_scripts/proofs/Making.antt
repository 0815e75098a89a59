-- A script that was run, and led to the same files, makes the device.
use Rattle.std.proofs.Common.{◌≡◌, ℕ, List, Some, true, sym, subst}
use Rattle.desk_state.specs.DeskState.{DeskState, fresh}
use Rattle.ctl_run.specs.Behind.{made_by}
use Rattle.ctl_scripts.specs.Export.{MakesDevice, are_same, files_of}

pub makes : (script : List ℕ) (desk start made : DeskState) → start ≡ fresh → made_by script start ≡ Some made
    → true ≡ are_same (files_of desk) (files_of made) → MakesDevice script desk
makes script desk start made is runs same = record {
  made = made;
  runs = subst (λ from. made_by script from ≡ Some made) is runs;
  same = sym same;
}
