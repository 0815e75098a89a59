-- What a folder holds: a map from names to the bytes of whole files. A name without a file has none.
use Rattle.std.specs.Prelude.{◌≡◌, ◌↔◌, ℕ, Bool, false, ◌||◌, List, [], ◌∷◌, map, Option, Some, None, IsSome}
use Rattle.std.specs.List.{Contains}
use Rattle.std.specs.List.Sorted.{IsStrictlySortedBy}
use Rattle.std.specs.Str.{bytes_eq}
use Rattle.std.specs.Map.{update}
use Rattle.std.specs.Ordering.{nat_cmp}
use Rattle.std.specs.Cmp.Lexicographic.{slice_cmp}
use Rattle.desk_ports.specs.declared.file_sets.SetFile.{SetFile}

-- the bytes of the file of each name, or nothing
abbrev pub FileMap : Type 0
FileMap = List ℕ → Option (List ℕ)

-- the map that holds this content at the name, a file's bytes or nothing, and elsewhere what it held before
abbrev pub with_content : FileMap → List ℕ → Option (List ℕ) → FileMap
with_content files name content = update bytes_eq files name content

-- a set of names, as a test
abbrev pub NameSet : Type 0
NameSet = List ℕ → Bool

-- no name
abbrev pub no_names : NameSet
no_names = λ name. false

-- the names, and this one
abbrev pub with_name : NameSet → List ℕ → NameSet
with_name names name = λ other. bytes_eq name other || names other

-- two maps hold the same at each name outside the set
abbrev pub AgreeOutside : NameSet → FileMap → FileMap → Type 0
AgreeOutside names first second = (name : List ℕ) → names name ≡ false → first name ≡ second name

-- the names rise strictly, byte by byte
abbrev pub NamesRise : List (List ℕ) → Type 0
NamesRise names = IsStrictlySortedBy (slice_cmp nat_cmp) names

-- these are the names that have a file
abbrev pub AreNamesOf : FileMap → List (List ℕ) → Type 0
AreNamesOf files names = (name : List ℕ) → Contains names name ↔ IsSome (files name)

-- the names of a list of files, in its order
abbrev pub names_of : List SetFile → List (List ℕ)
names_of files = map (λ file. file.name) files

-- the map of a list of files: at a name the first file of that name
abbrev pub map_of : List SetFile → FileMap
map_of [] = λ name. None
map_of (file ∷ files) = with_content (map_of files) file.name (Some file.bytes)
