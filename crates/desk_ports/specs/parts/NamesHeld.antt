-- A set of names, as the functions that go over calls keep it.
use Rattle.std.specs.Prelude.{ℕ, Bool, true, false, if◌then◌else◌, List}
use Rattle.std.specs.BTreeSet.{BTreeSet, contains}
use Rattle.std.specs.Ordering.{nat_cmp}
use Rattle.std.specs.Cmp.Lexicographic.{slice_cmp}
use Rattle.std.specs.Str.{bytes_eq}
use Rattle.desk_ports.specs.declared.file_names.FileName.{FileName}
use Rattle.desk_ports.specs.declared.disk_calls.DiskCall.{DiskCall}
use Rattle.desk_ports.specs.declared.disk_calls.DiskCall.TheVariants.{Names, Read, Write, Remove, Sync}
use Rattle.desk_ports.specs.declared.disk_calls.RecordedCall.{RecordedCall}

-- whether the set has the name
abbrev pub has_name : BTreeSet FileName → List ℕ → Bool
has_name set name = contains (slice_cmp nat_cmp) set name

-- whether the name has a file after a call that was done
abbrev pub is_held_after_done : DiskCall → List ℕ → Bool → Bool
is_held_after_done Names name was = was
is_held_after_done (Read read) name was = was
is_held_after_done (Write file) name was = if bytes_eq file.name name then true else was
is_held_after_done (Remove removed) name was = if bytes_eq removed name then false else was
is_held_after_done Sync name was = was

-- whether it has one after a call: one that failed changes nothing
abbrev pub is_held_after : RecordedCall → List ℕ → Bool → Bool
is_held_after made name was = if made.is_done then is_held_after_done made.call name was else was

-- whether the name is touched after a call
abbrev pub is_touched_after : RecordedCall → List ℕ → Bool → Bool
is_touched_after made name was = touched_by made.call
  where
    touched_by : DiskCall → Bool
    touched_by Names = was
    touched_by (Read read) = was
    touched_by (Write file) = if bytes_eq file.name name then true else was
    touched_by (Remove removed) = if bytes_eq removed name then true else was
    touched_by Sync = if made.is_done then false else was
