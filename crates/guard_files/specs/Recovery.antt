-- What a folder's files stand for, whatever a stop made of them. Every promise on stops cites `recover`.
use Rattle.std.specs.Prelude.{◌≡◌, ℕ, if◌then◌else◌, List, [], ◌∷◌, map, Option, Some, None, is_some, Result, Ok, Err}
use Rattle.std.specs.List.{AllByRecursion}
use Rattle.desk_ports.specs.declared.file_sets.SetFile.{SetFile}
use Rattle.desk_ports.specs.FileMap.{FileMap}
use Rattle.guard_files.specs.OwnName.{guard_name, list_name, primary_name, backup_name}
use Rattle.guard_files.specs.ListFile.{listed}

-- A set of files, or none, or the name of a file by which the folder is damaged: a list file that is none, or the first
-- listed file that is absent.
abbrev pub Recovered : Type 0
Recovered = Result (Option (List SetFile)) (List ℕ)

-- the file in front of the others, or its name where it is absent
abbrev pub with_file : List ℕ → Option (List ℕ) → Result (List SetFile) (List ℕ) → Result (List SetFile) (List ℕ)
with_file name None others = Err name
with_file name (Some bytes) (Ok files) = Ok (record { name = name; bytes = bytes } ∷ files)
with_file name (Some bytes) (Err absent) = Err absent

-- the files of these names, each read where it is placed, or the first name whose file is absent
abbrev pub files_at : (List ℕ → List ℕ) → FileMap → List (List ℕ) → Result (List SetFile) (List ℕ)
files_at place files [] = Ok []
files_at place files (name ∷ names) = with_file name (files (place name)) (files_at place files names)

abbrev pub set_of : Result (List SetFile) (List ℕ) → Recovered
set_of (Ok files) = Ok (Some files)
set_of (Err absent) = Err absent

-- the set of the names read, where the list file was a list of set files
abbrev pub set_named : (List ℕ → List ℕ) → FileMap → Option (List (List ℕ)) → Recovered
set_named place files None = Err (place list_name)
set_named place files (Some names) = set_of (files_at place files names)

-- the set that a list file with these bytes names, or the other answer where there is no list file
abbrev pub set_listed : (List ℕ → List ℕ) → Recovered → FileMap → Option (List ℕ) → Recovered
set_listed place absent files None = absent
set_listed place absent files (Some bytes) = set_named place files (listed bytes)

-- The set in the backups, and the set in the primaries. Backups without a list are damage, primaries without one are
-- no set.
unfoldable pub backup_set : FileMap → Recovered
backup_set files = set_listed backup_name (Err (backup_name list_name)) files (files (backup_name list_name))

unfoldable pub primary_set : FileMap → Recovered
primary_set files = set_listed primary_name (Ok None) files (files list_name)

-- While the guard stands the backups count, else the primaries: never some of both.
unfoldable pub recover : FileMap → Recovered
recover files = if is_some (files guard_name) then backup_set files else primary_set files

-- The names on which the recovery of a map rests: the guard, the list file that counts, and the files that it names.
abbrev pub names_or_none : Option (List (List ℕ)) → List (List ℕ)
names_or_none None = []
names_or_none (Some names) = names

abbrev pub named_by : Option (List ℕ) → List (List ℕ)
named_by None = []
named_by (Some bytes) = names_or_none (listed bytes)

unfoldable pub names_at : (List ℕ → List ℕ) → FileMap → List (List ℕ)
names_at place files = place list_name ∷ map place (named_by (files (place list_name)))

unfoldable pub protected : FileMap → List (List ℕ)
protected files =
    guard_name
    ∷ (if is_some (files guard_name) then names_at backup_name files else names_at primary_name files)

-- both maps have the same at each of these names
abbrev pub AgreeAt : List (List ℕ) → FileMap → FileMap → Type 0
AgreeAt names files others = AllByRecursion (λ name. files name ≡ others name) names

-- The law that carries every promise on stops: what agrees at the protected names recovers to the same, damage
-- included.
abbrev pub RecoversAlike : Type 0
RecoversAlike = (files others : FileMap) → AgreeAt (protected files) files others → recover others ≡ recover files
