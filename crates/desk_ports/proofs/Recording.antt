-- What a recorded call does to the state and to the moments of a disk in memory.
use Rattle.std.proofs.Common.{◌≡◌, ◌||◌, ⊎_elim, ◌≤◌, inl, inr, ℕ, Bool, true, false, List, [], ◌∷◌, length, Option, Some, sym, ◌∙◌, ap, subst, refl, arith, length-append}
use Rattle.std.proofs.Math.Nat.{eq-or-lt_of_le}
use Rattle.std.proofs.lemmas.List.{take-append-le}
use Rattle.std.proofs.lemmas.List.Sums.{fold-append}
use lib.Pointwise.{bytes_decides}
use Rattle.desk_ports.specs.Disk.{DiskState, WhereTold, MayLeave, IsDisturbedAt, Disturbs}
use Rattle.desk_ports.specs.Moments.{Elapses}
use Rattle.desk_ports.specs.DiskCalls.{fresh_state, after_done, after_failed, after_call, after_calls, with_only_touched}
use Rattle.desk_ports.specs.MemDisk.{RecordedDisk, with_call, with_fault, IsFailedCall, IsCallWithoutMemory, state_of, state_after, LeftSince}
use Rattle.desk_ports.specs.MemDiskLaws.{told_state, last_moment}
use Rattle.desk_ports.specs.declared.disk_calls.DiskCall.{DiskCall}

-- the state after one call more
state-with_call : (old : RecordedDisk) (call : DiskCall) (is_done : Bool)
    → state_of (with_call old call is_done) ≡ after_call (state_of old) (record { call = call; is_done = is_done })
state-with_call old call is_done =
    fold-append after_call (fresh_state old.files) old.calls (record { call = call; is_done = is_done } ∷ [])

-- what a call that was done makes of the state that was told
pub told-done : (old new : RecordedDisk) (call : DiskCall) → new ≡ with_call old call true
    → WhereTold (Some (state_of old)) (λ before. Some (state_of new) ≡ Some (after_done before call))
told-done old new call is before told =
    ap Some (ap state_of is ∙ state-with_call old call true ∙ ap (λ state. after_done state call) (told_state old before told))

-- what a failed one makes of it
pub told-failed : (old new : RecordedDisk) (call : DiskCall) → new ≡ with_fault (with_call old call false)
    → WhereTold (Some (state_of old)) (λ before. Some (state_of new) ≡ Some (after_failed before call))
told-failed old new call is before told =
    ap Some (ap state_of is ∙ state-with_call old call false ∙ ap (λ state. after_failed state call) (told_state old before told))

-- a name that was only touched is disturbed
only_touched-disturbs : (before : DiskState) (name : List ℕ) → IsDisturbedAt before name (with_only_touched before name)
only_touched-disturbs before name = record {
  durable = refl;
  elsewhere = λ other apart. refl;
  untouched = λ other apart. ap (λ is. is || before.touched other) apart;
  touched = inl (ap (λ is. is || before.touched name) ((bytes_decides name name).1 refl));
}

undisturbed : (before : DiskState) (name : List ℕ) → IsDisturbedAt before name before
undisturbed before name = record {
  durable = refl;
  elsewhere = λ other apart. refl;
  untouched = λ other apart. refl;
  touched = inr refl;
}

-- a failed call on a name disturbs that name alone
pub Disturbs-failed : (old new : RecordedDisk) (call : DiskCall) (name : List ℕ)
    → ((state : DiskState) → after_failed state call ≡ with_only_touched state name) → IsFailedCall old call new
    → Disturbs (Some (state_of old)) name (Some (state_of new))
Disturbs-failed old new call name touches (inl is) before told = (
  with_only_touched before name,
  told-failed old new call is.1 before told ∙ ap Some (touches before),
  only_touched-disturbs before name,
)
Disturbs-failed old new call name touches (inr is) before told =
    (before, ap state_told is ∙ told, undisturbed before name)
  where
    state_told : RecordedDisk → Option DiskState
    state_told disk = Some (state_of disk)

-- the state after so many calls is that of before, where there were so many
state_after-with_call : (old : RecordedDisk) (call : DiskCall) (is_done : Bool) (count : ℕ) → count ≤ length old.calls
    → state_after (with_call old call is_done) count ≡ state_after old count
state_after-with_call old call is_done count le =
    ap (after_calls old.files) (take-append-le count old.calls (record { call = call; is_done = is_done } ∷ []) le)

-- time goes on by one call
elapses-with_call : (old : RecordedDisk) (call : DiskCall) (is_done : Bool)
    → Elapses (length old.calls) (length (with_call old call is_done).calls) (LeftSince old)
    (LeftSince (with_call old call is_done)) (state_of (with_call old call is_done))
elapses-with_call old call is_done =
    let new = with_call old call is_done in
    let longer = length-append old.calls (record { call = call; is_done = is_done } ∷ []) in
    record {
      later = omega (arith, longer);
      nothing_else = λ t left le was. ⊎_elim (λ last. inr (last_moment new was.0 left last was.3))
          (λ earlier. let within : was.0 ≤ length old.calls = omega (arith, earlier, longer) in
          inl (was.0, was.1, within, subst (λ state. MayLeave state left) (state_after-with_call old call is_done was.0 within) was.3))
          (eq-or-lt_of_le was.2);
      keeps = λ t left le was. (
        was.0,
        was.1,
        omega (arith, was.2, longer),
        subst (λ state. MayLeave state left) (sym (state_after-with_call old call is_done was.0 was.2)) was.3,
      );
    }

-- no time goes on where no call was recorded
elapses-none : (old : RecordedDisk) → Elapses (length old.calls) (length old.calls) (LeftSince old) (LeftSince old) (state_of old)
elapses-none old = record { later = omega arith; nothing_else = λ t left le was. inl was; keeps = λ t left le was. was }

-- time goes on from the one disk to the other
abbrev pub GoesOn : RecordedDisk → RecordedDisk → Type 0
GoesOn old new = Elapses (length old.calls) (length new.calls) (LeftSince old) (LeftSince new) (state_of new)

-- the same of the state that is told
told-goes_on : (old new : RecordedDisk) → GoesOn old new
    → WhereTold (Some (state_of new)) (Elapses (length old.calls) (length new.calls) (LeftSince old) (LeftSince new))
told-goes_on old new goes state told =
    subst (Elapses (length old.calls) (length new.calls) (LeftSince old) (LeftSince new)) (told_state new state told) goes

-- over a call that was done
pub Elapses-done : (old new : RecordedDisk) (call : DiskCall) (is_done : Bool) → new ≡ with_call old call is_done
    → WhereTold (Some (state_of new)) (Elapses (length old.calls) (length new.calls) (LeftSince old) (LeftSince new))
Elapses-done old new call is_done is =
    told-goes_on old new (subst (GoesOn old) (sym is) (elapses-with_call old call is_done))

-- over a call that failed
pub Elapses-failed : (old new : RecordedDisk) (call : DiskCall) → IsFailedCall old call new
    → WhereTold (Some (state_of new)) (Elapses (length old.calls) (length new.calls) (LeftSince old) (LeftSince new))
Elapses-failed old new call (inl is) = told-goes_on old new (subst (GoesOn old) (sym is.1) (elapses-with_call old call false))
Elapses-failed old new call (inr is) = told-goes_on old new (subst (GoesOn old) (sym is) (elapses-none old))

-- over a call that wanted memory
pub Elapses-without_memory : (old new : RecordedDisk) (call : DiskCall) → IsCallWithoutMemory old call new
    → WhereTold (Some (state_of new)) (Elapses (length old.calls) (length new.calls) (LeftSince old) (LeftSince new))
Elapses-without_memory old new call (inl is) = Elapses-done old new call true is
Elapses-without_memory old new call (inr is) = told-goes_on old new (subst (GoesOn old) (sym is) (elapses-none old))
