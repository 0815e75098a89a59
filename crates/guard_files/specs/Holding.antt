-- What a folder's map holds of a set: its own names, and the files where they are placed.
use Rattle.std.specs.Prelude.{◌≡◌, ℕ, Bool, true, false, List, [], ◌∷◌, Option, Some, None, IsSome}
use Rattle.std.specs.List.{AllByRecursion, list_any}
use Rattle.desk_ports.specs.declared.file_sets.SetFile.{SetFile}
use Rattle.std.specs.Str.{bytes_eq}
use Rattle.desk_ports.specs.FileMap.{FileMap, names_of}
use Rattle.guard_files.specs.OwnName.{list_name, is_own}

-- whether the name is among these
abbrev pub is_among : List (List ℕ) → List ℕ → Bool
is_among names name = list_any (λ other. bytes_eq other name) names

-- the own names of a folder that holds the set and nothing else: the list and the set's files, or none
abbrev pub own_names : Option (List SetFile) → List (List ℕ)
own_names None = []
own_names (Some files) = list_name ∷ names_of files

-- the own names of the folder are exactly these
pub record OwnNamesAre (names : List (List ℕ)) (files : FileMap) : Type 0 where
  pub there : AllByRecursion (λ name. IsSome (files name)) names
  pub no_other : (name : List ℕ) → is_own name ≡ true → is_among names name ≡ false → files name ≡ None
