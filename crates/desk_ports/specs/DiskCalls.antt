-- What calls make of a disk's state, one after another.
use Rattle.std.specs.Prelude.{ℕ, if◌then◌else◌, List, fold, Some, None}
use Rattle.desk_ports.specs.FileMap.{no_names, with_name, map_of}
use Rattle.desk_ports.specs.Disk.{DiskState, with_touched, with_all_durable}
use Rattle.desk_ports.specs.declared.file_sets.SetFile.{SetFile}
use Rattle.desk_ports.specs.declared.disk_calls.DiskCall.{DiskCall}
use Rattle.desk_ports.specs.declared.disk_calls.DiskCall.TheVariants.{Names, Read, Write, Remove, Sync}
use Rattle.desk_ports.specs.declared.disk_calls.RecordedCall.{RecordedCall}

-- these files, all of them durable, and no name touched
abbrev pub fresh_state : List SetFile → DiskState
fresh_state files = record { current = map_of files; durable = map_of files; touched = no_names }

-- the state after the name was touched, with what is read as before
abbrev pub with_only_touched : DiskState → List ℕ → DiskState
with_only_touched state name = record {
  current = state.current;
  durable = state.durable;
  touched = with_name state.touched name;
}

-- the state after a call that was done
abbrev pub after_done : DiskState → DiskCall → DiskState
after_done state Names = state
after_done state (Read name) = state
after_done state (Write file) = with_touched state file.name (Some file.bytes)
after_done state (Remove name) = with_touched state name None
after_done state Sync = with_all_durable state

-- the state after a call that failed: a write or a removal touches its name
abbrev pub after_failed : DiskState → DiskCall → DiskState
after_failed state Names = state
after_failed state (Read name) = state
after_failed state (Write file) = with_only_touched state file.name
after_failed state (Remove name) = with_only_touched state name
after_failed state Sync = state

-- the state after a call
abbrev pub after_call : DiskState → RecordedCall → DiskState
after_call state made = if made.is_done then after_done state made.call else after_failed state made.call

-- the state after these calls, from a disk with these files on
abbrev pub after_calls : List SetFile → List RecordedCall → DiskState
after_calls files calls = fold after_call (fresh_state files) calls
