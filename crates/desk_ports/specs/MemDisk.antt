-- A disk in memory, as contracts see it.
use Rattle.std.specs.Prelude.{◌≡◌, ◌⊎◌, ◌≤◌, ℕ, Bool, true, false, List, [], ◌∷◌, ◌++◌, length, take, Result, Ok, Err}
use Rattle.std.specs.List.{Contains}
use Rattle.desk_ports.specs.Faults.{next_count}
use Rattle.desk_ports.specs.FileMap.{FileMap}
use Rattle.desk_ports.specs.Disk.{DiskState, MayLeave}
use Rattle.desk_ports.specs.DiskCalls.{after_calls}
use Rattle.desk_ports.specs.declared.streams.Failed.{Failed}
use Rattle.desk_ports.specs.declared.port_faults.PortFault.{PortFault}
use Rattle.desk_ports.specs.declared.port_faults.PortFault.TheVariants.{Memory}
use Rattle.desk_ports.specs.declared.file_sets.SetFile.{SetFile}
use Rattle.desk_ports.specs.declared.disk_calls.DiskCall.{DiskCall}
use Rattle.desk_ports.specs.declared.disk_calls.RecordedCall.{RecordedCall}

-- The files that it was made from; the record of its calls, each done or failed, the first of them first; how many
-- calls were made; the numbers of the calls that are to fail, the first call being 1; and how many calls have failed.
pub record RecordedDisk : Type 0 where
  pub files : List SetFile
  pub calls : List RecordedCall
  pub made : ℕ
  pub fails : List ℕ
  pub faults : ℕ

-- the number of the next call; past the last value of a count every call has that number
abbrev pub next_number : RecordedDisk → ℕ
next_number disk = next_count disk.made

-- the disk after a call got its number
abbrev pub with_number : RecordedDisk → RecordedDisk
with_number disk = record disk { made = next_number disk }

-- the disk after a call got its number and its place in the record
abbrev pub with_call : RecordedDisk → DiskCall → Bool → RecordedDisk
with_call disk call is_done = record disk {
  calls = disk.calls ++ record { call = call; is_done = is_done } ∷ [];
  made = next_number disk;
}

-- the disk after a failure was counted
abbrev pub with_fault : RecordedDisk → RecordedDisk
with_fault disk = record disk { faults = next_count disk.faults }

-- A call failed by the list: its number is there, and it stands in the record as a call that failed.
abbrev pub IsListedFailure : RecordedDisk → DiskCall → RecordedDisk → Type 0
IsListedFailure old call new = Contains old.fails (next_number old) × (new ≡ with_fault (with_call old call false))

-- A call that may change the disk failed: by the list, or it found no memory to be recorded, and has changed nothing.
abbrev pub IsFailedCall : RecordedDisk → DiskCall → RecordedDisk → Type 0
IsFailedCall old call new =
    IsListedFailure old call new ⊎ (new ≡ with_fault (with_number old))

-- A call wanted memory: it stands in the record as a call that was done, or it found no memory to be recorded.
abbrev pub IsCallWithoutMemory : RecordedDisk → DiskCall → RecordedDisk → Type 0
IsCallWithoutMemory old call new = (new ≡ with_call old call true) ⊎ (new ≡ with_number old)

-- what a refused call does to the disk: one that only reads fails by the list alone
abbrev pub RefusesCall : PortFault → RecordedDisk → DiskCall → RecordedDisk → Type 0
RefusesCall (Memory error) old call new = IsCallWithoutMemory old call new
RefusesCall _ old call new = IsListedFailure old call new

-- what a call with this answer does to the disk: with an Ok it stands in the record as a call that was done
abbrev pub AnswersCall : {T : Type 0} → Result T PortFault → RecordedDisk → DiskCall → RecordedDisk → Type 0
AnswersCall (Ok value) old call new = new ≡ with_call old call true
AnswersCall (Err refusal) old call new = RefusesCall refusal old call new

-- the same of a call that has no answer for want of memory
abbrev pub AnswersChange : {T : Type 0} → Result T Failed → RecordedDisk → DiskCall → RecordedDisk → Type 0
AnswersChange (Ok value) old call new = new ≡ with_call old call true
AnswersChange (Err failed) old call new = IsFailedCall old call new

-- the state that the record gives
abbrev pub state_of : RecordedDisk → DiskState
state_of disk = after_calls disk.files disk.calls

-- the state after the first so many calls of the record
abbrev pub state_after : RecordedDisk → ℕ → DiskState
state_after disk count = after_calls disk.files (take count disk.calls)

-- a stop after some number of calls, at least so many, may have left this map
abbrev pub LeftSince : RecordedDisk → ℕ → FileMap → Type 0
LeftSince disk since left =
    (count : ℕ) × (since ≤ count) × (count ≤ length disk.calls) × MayLeave (state_after disk count) left
