-- The names that a store has of its own in its folder. Nothing else there is read, written or removed.
use Rattle.std.specs.Prelude.{ℕ, Bool, not, ◌&&◌, ◌||◌, ◌==◌, nat_eq, nat_le, List, [], ◌∷◌, ◌++◌, length, take, ◌-◌}
use Rattle.std.specs.List.{list_any, list_all, starts_with, ends_with}
use Rattle.std.specs.Str.{bytes_eq}
use lib.Chars.{codes}
use Rattle.desk_ports.specs.FileName.{is_file_name_byte}

-- stands in the folder while the backups are what counts
abbrev pub guard_name : List ℕ
guard_name = codes "guard"

-- the file with the names of the set's files
abbrev pub list_name : List ℕ
list_name = codes "list"

-- a file stands under its own name, its backup under this name followed by `~`
abbrev pub primary_name : List ℕ → List ℕ
primary_name name = name

abbrev pub backup_name : List ℕ → List ℕ
backup_name name = name ++ 126 ∷ []

-- ends with `~`
unfoldable pub is_backup : List ℕ → Bool
is_backup name = ends_with nat_eq name (126 ∷ [])

-- the name without its last byte
abbrev pub front : List ℕ → List ℕ
front name = take (length name - 1) name

-- the files of a desk: five by their whole name, those of buckets by `_`, those of packages by `r.`
unfoldable pub is_desk_name : List ℕ → Bool
is_desk_name name =
    list_any (bytes_eq name) (codes "stamp" ∷ codes "buckets" ∷ codes "users" ∷ codes "apps" ∷ codes "template" ∷ [])
    || (starts_with nat_eq name (codes "_") || starts_with nat_eq name (codes "r."))

-- the guard, the list and the files of a desk
unfoldable pub is_primary : List ℕ → Bool
is_primary name = (bytes_eq name guard_name || bytes_eq name list_name) || is_desk_name name

-- these, and the backup of each
unfoldable pub is_own : List ℕ → Bool
is_own name = is_primary name || (is_backup name && is_primary (front name))

-- may stand in a list of a set's files: a file name that leaves room for the `~` of its backup, and an own name, but
-- not the guard's, not the list's and not that of a backup
unfoldable pub is_listable : List ℕ → Bool
is_listable name =
    ((not (length name == 0) && nat_le (length name) 254) && list_all is_file_name_byte name)
    && ((not (bytes_eq name guard_name) && not (bytes_eq name list_name)) && (not (is_backup name) && is_own name))
