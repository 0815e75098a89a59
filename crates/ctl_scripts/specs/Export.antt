-- What a script of a device is.
use Rattle.std.specs.Prelude.{◌≡◌, ◌==◌, ◌&&◌, ◌||◌, ℕ, Bool, true, false, if◌then◌else◌, List, length, Some, codes}
use Rattle.std.specs.List.{list_all, zip}
use Rattle.std.specs.Str.{bytes_eq}
use Rattle.desk_ports.specs.declared.file_sets.SetFile.{SetFile}
use Rattle.desk_state.specs.DeskState.{DeskState, fresh}
use Rattle.set_text.specs.Files.{files}
use Rattle.ctl_run.specs.Behind.{made_by}

abbrev pub files_of : DeskState → List SetFile
files_of desk = files desk

abbrev pub is_stamp : SetFile → Bool
is_stamp file = bytes_eq file.name (codes "stamp")

-- two files of one name have the same bytes, but for `stamp`, which has the count of the commands
abbrev pub is_same : SetFile → SetFile → Bool
is_same one other =
    bytes_eq one.name other.name && (is_stamp one || bytes_eq one.bytes other.bytes)

abbrev pub pairs_same : List SetFile → List SetFile → Bool
pairs_same one other = list_all (λ pair. is_same pair.0 pair.1) (zip one other)

-- two sets have the same files, but for `stamp`
abbrev pub are_same : List SetFile → List SetFile → Bool
are_same one other = if length one == length other then pairs_same one other else false

-- The script, run on a device before its first command, has no line outside the grammar and gives the same files, but
-- for `stamp`.
pub record MakesDevice (script : List ℕ) (desk : DeskState) : Type 0 where
  pub made : DeskState
  pub runs : made_by script fresh ≡ Some made
  pub same : are_same (files_of desk) (files_of made) ≡ true
