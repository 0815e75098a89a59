-- Files are put together of their parts: the file of a name has the bytes of its parts, one behind the other.
use Rattle.std.specs.Prelude.{◌≡◌, ℕ, if◌then◌else◌, List, [], ◌∷◌, ◌++◌, Option, Some, None}
use Rattle.std.specs.Str.{bytes_eq}
use Rattle.desk_ports.specs.FileMap.{FileMap, map_of}
use Rattle.desk_ports.specs.declared.file_sets.SetFile.{SetFile}
use Rattle.ctl_door.specs.declared.frames.Part.{Part}

-- bytes behind those of a file, if there is one
abbrev pub behind : Option (List ℕ) → List ℕ → Option (List ℕ)
behind None bytes = Some bytes
behind (Some before) bytes = Some (before ++ bytes)

-- the files with a further part
abbrev pub with_part : FileMap → Part → FileMap
with_part files part name =
    if bytes_eq part.name name then behind (files name) part.bytes else files name

-- the files with further parts, in turn
abbrev pub with_parts : FileMap → List Part → FileMap
with_parts files [] = files
with_parts files (part ∷ parts) = with_parts (with_part files part) parts

-- the files of these parts
abbrev pub files_of : List Part → FileMap
files_of parts = with_parts (λ name. None) parts

-- Each file has the bytes of its parts, and there is no other file.
abbrev pub AreJoined : List Part → List SetFile → Type 0
AreJoined parts files = (name : List ℕ) → map_of files name ≡ files_of parts name
