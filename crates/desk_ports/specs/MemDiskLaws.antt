-- A disk in memory keeps the laws of disks.
use Rattle.std.specs.Prelude.{◌≡◌, ◌≤◌, ℕ, true, false, if◌then◌else◌, List, []}
use Rattle.std.specs.Prelude.{◌∷◌, length, fold, Option, Some, None, refl}
use Rattle.std.proofs.Common.{sym, ◌∙◌, ap, subst, cond, arith}
use Rattle.std.proofs.Math.Seq.{take-length}
use Rattle.std.proofs.lemmas.Bool.{or_parts}
use Rattle.std.specs.Str.{bytes_eq}
use Rattle.desk_ports.specs.FileMap.{FileMap}
use Rattle.desk_ports.specs.Disk.{DiskState, IsTouchedOnly, MayLeave}
use Rattle.desk_ports.specs.DiskCalls.{fresh_state, after_done, after_failed, after_call, after_calls}
use Rattle.desk_ports.specs.MemDisk.{RecordedDisk, state_of, state_after, LeftSince}
use Rattle.desk_ports.specs.declared.disk_calls.DiskCall.{DiskCall}
use Rattle.desk_ports.specs.declared.disk_calls.DiskCall.TheVariants.{Names, Read, Write, Remove, Sync}
use Rattle.desk_ports.specs.declared.disk_calls.RecordedCall.{RecordedCall}

done_touches : (state : DiskState) (call : DiskCall) → IsTouchedOnly state → IsTouchedOnly (after_done state call)
done_touches state Names only = only
done_touches state (Read name) only = only
done_touches state (Write file) only = λ other outside.
    let apart = or_parts (bytes_eq file.name other) (state.touched other) outside in
    ap (λ is. cond is (Some file.bytes) (state.current other)) apart.0 ∙ only other apart.1
done_touches state (Remove name) only = λ other outside.
    let apart = or_parts (bytes_eq name other) (state.touched other) outside in
    ap (λ is. cond is None (state.current other)) apart.0 ∙ only other apart.1
done_touches state Sync only = λ other outside. refl

failed_touches : (state : DiskState) (call : DiskCall) → IsTouchedOnly state → IsTouchedOnly (after_failed state call)
failed_touches state Names only = only
failed_touches state (Read name) only = only
failed_touches state (Write file) only = λ other outside.
    only other (or_parts (bytes_eq file.name other) (state.touched other) outside).1
failed_touches state (Remove name) only = λ other outside.
    only other (or_parts (bytes_eq name other) (state.touched other) outside).1
failed_touches state Sync only = only

call_touches : (state : DiskState) (made : RecordedCall) → IsTouchedOnly state → IsTouchedOnly (after_call state made)
call_touches state made only =
    elim made.is_done as (λ is.
    IsTouchedOnly (if is then after_done state made.call else after_failed state made.call)) [
      | true ↦ done_touches state made.call only
      | false ↦ failed_touches state made.call only
    ]

calls_touch : (calls : List RecordedCall) (state : DiskState) → IsTouchedOnly state
    → IsTouchedOnly (fold after_call state calls)
calls_touch [] state only = only
calls_touch (made ∷ calls) state only = calls_touch calls (after_call state made) (call_touches state made only)

-- what is in a `Some`
in_some : DiskState → Option DiskState → DiskState
in_some other None = other
in_some other (Some state) = state

-- the state that is told is the one that the record gives
pub told_state : (disk : RecordedDisk) (state : DiskState) → Some (state_of disk) ≡ Some state → state_of disk ≡ state
unfolding in_some
told_state disk state told = ap (in_some state) told

pub touched_only_of : (disk : RecordedDisk) (state : DiskState) → Some (state_of disk) ≡ Some state
    → IsTouchedOnly state
touched_only_of disk state told =
    subst IsTouchedOnly (told_state disk state told)
    (calls_touch disk.calls (fresh_state disk.files) (λ name outside. refl))

pub counts_now_of : (disk : RecordedDisk) (since : ℕ) (left : FileMap) → since ≤ length disk.calls → (state : DiskState)
    → Some (state_of disk) ≡ Some state → MayLeave state left → LeftSince disk since left
counts_now_of disk since left le state told may = (
  length disk.calls,
  le,
  omega arith,
  subst (λ now. MayLeave now left)
      (sym (told_state disk state told) ∙ ap (after_calls disk.files) (sym (take-length disk.calls))) may,
)

-- what was left after so many calls, of so many
pub last_moment : (disk : RecordedDisk) (count : ℕ) (left : FileMap) → count ≡ length disk.calls
    → MayLeave (state_after disk count) left
    → MayLeave (state_of disk) left
last_moment disk count left is may =
    subst (λ now. MayLeave now left)
    (ap (state_after disk) is ∙ ap (after_calls disk.files) (take-length disk.calls)) may

pub only_now_of : (disk : RecordedDisk) (left : FileMap) (state : DiskState) → Some (state_of disk) ≡ Some state
    → LeftSince disk (length disk.calls) left → MayLeave state left
only_now_of disk left state told was =
    subst (λ now. MayLeave now left) (told_state disk state told)
    (last_moment disk was.0 left (omega (arith, was.1, was.2)) was.3)
