-- A disk in memory does at each of its calls what the trait says.
use Rattle.std.proofs.Common.{◌≡◌, inl, inr, ℕ, true, List, length, Some, Result, Ok, Err, IfOk, OnOk, OnErr, ◌∙◌, ap, subst}
use Rattle.desk_ports.specs.Disk.{DiskState, WhereTold, KeepsState, Disturbs}
use Rattle.desk_ports.specs.Moments.{Elapses}
use Rattle.desk_ports.specs.DiskCalls.{after_done, after_failed, with_only_touched}
use Rattle.desk_ports.specs.MemDisk.{RecordedDisk, IsFailedCall, AnswersCall, AnswersChange, state_of, LeftSince}
use Rattle.desk_ports.specs.MemDiskLaws.{told_state}
use Rattle.desk_ports.proofs.Recording.{told-done, told-failed, Disturbs-failed, Elapses-done, Elapses-failed, Elapses-without_memory}
use Rattle.desk_ports.specs.declared.streams.Failed.{Failed}
use Rattle.desk_ports.specs.declared.port_faults.PortFault.{PortFault}
use Rattle.desk_ports.specs.declared.port_faults.PortFault.TheVariants.{Memory}
use Rattle.desk_ports.specs.declared.port_faults.PortFault.TheVariants as fault
use Rattle.desk_ports.specs.declared.disk_calls.DiskCall.{DiskCall}

module _ (old new : RecordedDisk) (call : DiskCall) where
  -- a failed call that touches no name keeps the state
  keeps-failed : ((state : DiskState) → after_failed state call ≡ state) → IsFailedCall old call new
      → KeepsState (Some (state_of old)) (Some (state_of new))
  keeps-failed keeps (inl is) before told = told-failed old new call is.1 before told ∙ ap Some (keeps before)
  keeps-failed keeps (inr is) before told = ap (λ disk. Some (state_of disk)) is ∙ told

module _ {T : Type 0} (old new : RecordedDisk) (call : DiskCall) where
  pub time-change : (result : Result T Failed) → AnswersChange result old call new
      → WhereTold (Some (state_of new)) (Elapses (length old.calls) (length new.calls) (LeftSince old) (LeftSince new))
  time-change (Ok value) is = Elapses-done old new call true is
  time-change (Err failed) is = Elapses-failed old new call is

  pub told-change : (result : Result T Failed) → AnswersChange result old call new
      → OnOk result (WhereTold (Some (state_of old)) (λ before. Some (state_of new) ≡ Some (after_done before call)))
  told-change (Ok value) is = told-done old new call is
  told-change (Err failed) is = tt

  pub disturbs-change : (name : List ℕ) (result : Result T Failed)
      → ((state : DiskState) → after_failed state call ≡ with_only_touched state name)
      → AnswersChange result old call new → OnErr result (Disturbs (Some (state_of old)) name (Some (state_of new)))
  disturbs-change name (Ok value) touches is = tt
  disturbs-change name (Err failed) touches is = Disturbs-failed old new call name touches is

  pub keeps-change : (result : Result T Failed) → ((state : DiskState) → after_failed state call ≡ state)
      → AnswersChange result old call new → OnErr result (KeepsState (Some (state_of old)) (Some (state_of new)))
  keeps-change (Ok value) keeps is = tt
  keeps-change (Err failed) keeps is = keeps-failed old new call keeps is

  pub time-call : (result : Result T PortFault) → AnswersCall result old call new
      → WhereTold (Some (state_of new)) (Elapses (length old.calls) (length new.calls) (LeftSince old) (LeftSince new))
  time-call (Ok value) is = Elapses-done old new call true is
  time-call (Err fault.Failed) is = Elapses-failed old new call (inl is)
  time-call (Err (Memory error)) is = Elapses-without_memory old new call is

  -- what is read after a call that changes nothing is what was there before
  pub told-call : (P : T → DiskState → Type 0) (result : Result T PortFault) → ((state : DiskState) → after_done state call ≡ state)
      → AnswersCall result old call new → IfOk result (λ value. P value (state_of new))
      → IfOk result (λ value. WhereTold (Some (state_of old)) (P value))
  told-call P (Ok value) keeps is read = λ state told.
      subst (P value) (told_state new state (told-done old new call is state told ∙ ap Some (keeps state))) read
  told-call P (Err refusal) keeps is read = tt
