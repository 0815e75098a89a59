-- What a folder's files stand for, whatever a stop made of them: a policy state, or the damage by which they stand for
-- none (`standing`); and the same as a refusal tells it, by a file and a line (`kept`).
use Rattle.std.specs.Prelude.{ℕ, List, Option, Some, None, Result, Ok, Err}
use Rattle.desk_ports.specs.declared.file_sets.SetFile.{SetFile}
use Rattle.desk_ports.specs.FileMap.{FileMap}
use Rattle.guard_files.specs.Recovery.{Recovered, recover}
use Rattle.desk_state.specs.DeskState.{DeskState, fresh}
use Rattle.set_text.specs.Fault.{Fault, whole}
use Rattle.set_text.specs.Reading.{read_of}

-- a set of files, or its first fault; no set is the state before the first command
abbrev pub desk_of_set : Option (List SetFile) → Result DeskState Fault
desk_of_set None = Ok fresh
desk_of_set (Some set) = read_of set

-- Why a map stands for no policy state: its store is damaged, or its set is that of no policy state.
pub data Damage : Type 0 where
  of_store : (file : List ℕ) → Damage
  of_set : (fault : Fault) → Damage

-- what a map stands for: a policy state, or the damage by which it stands for none
abbrev pub Standing : Type 0
Standing = Result DeskState Damage

abbrev pub standing_of_set : Result DeskState Fault → Standing
standing_of_set (Ok desk) = Ok desk
standing_of_set (Err fault) = Err (of_set fault)

abbrev pub standing_of : Recovered → Standing
standing_of (Err file) = Err (of_store file)
standing_of (Ok held) = standing_of_set (desk_of_set held)

unfoldable pub standing : FileMap → Standing
standing files = standing_of (recover files)

-- As a refusal tells it, a damaged store names its file as a whole: so does a set one of whose files is refused as a
-- whole.
abbrev pub as_told : Standing → Result DeskState Fault
as_told (Ok desk) = Ok desk
as_told (Err (of_store file)) = Err (whole file)
as_told (Err (of_set fault)) = Err fault

unfoldable pub kept : FileMap → Result DeskState Fault
kept files = as_told (standing files)

-- what a folder at rest keeps: the set that it holds, or none, and the state that this stands for
pub record Kept : Type 0 where
  pub held : Option (List SetFile)
  pub desk : DeskState
