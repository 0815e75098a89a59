-- Paths of a folder's files.
use Rattle.std.specs.Prelude.{ℕ, ◌-◌, nat_eq, List, ◌∷◌, ◌++◌, [], length, take, if◌then◌else◌}
use Rattle.std.specs.List.{ends_with}
use lib.Chars.{codes}

-- the folder, a slash, and the file's name
abbrev pub file_path : List ℕ → List ℕ → List ℕ
file_path folder name = folder ++ 47 ∷ name

-- the folder's own name of the folder that it stands in
abbrev pub parent_path : List ℕ → List ℕ
parent_path folder = folder ++ codes "/.."

-- the folder, whatever leads to it
abbrev pub names_path : List ℕ → List ℕ
names_path folder = folder ++ codes "/"

-- the name of a file's backup, or of the file that this one is a backup of
abbrev pub partner_name : List ℕ → List ℕ
partner_name name = if ends_with nat_eq name (126 ∷ []) then take (length name - 1) name else name ++ 126 ∷ []
