-- What stops leave, put together from what each part of a command leaves.
use Rattle.std.proofs.Common.{◌≡◌, ◌∙◌, inl, inr, ⊎_elim, ℕ, List, Option, Some, None, Ok, refl, sym, ap}
use Rattle.desk_ports.specs.FileMap.{FileMap}
use Rattle.desk_ports.specs.Disk.{DiskState, MayLeave, IsTouchedOnly}
use Rattle.desk_ports.specs.Moments.{LeavesOnly}
use Rattle.desk_ports.specs.declared.file_sets.SetFile.{SetFile}
use Rattle.desk_ports.proofs.Moments.{AddsOnly-none, LeavesOnly-from, LeavesOnly-then, LeavesOnly-more}
use Rattle.desk_state.specs.DeskState.{DeskState}
use Rattle.desk_state.specs.Next.{next}
use Rattle.desk_state.specs.Rules.{fault}
use Rattle.desk_state.specs.declared.commands.Command.{Command}
use Rattle.desk_keeper.specs.Kept.{kept, standing}
use Rattle.desk_keeper.specs.Keeping.{IsKept, IsBeforeOrAfter}
use Rattle.desk_keeper.proofs.Keeping.{standing-kept, standing-alike}
use Rattle.guard_files.specs.Mounted.{RecoversAsAllowed}
use Rattle.admin_door.specs.Stops.{StandsAsAt, Allows, IsBeforeOrApplied, StandsBy}

-- what is durable at a state that keeps a policy state stands for it
pub allows-kept : (before : DiskState) (desk : DeskState) (held : Option (List SetFile)) → IsKept desk held before → Allows before desk
allows-kept before desk held is =
    let durable : MayLeave before before.durable = λ name outside. refl in
    (before.durable, durable, standing-kept before.durable desk (is.alone before.durable durable))

-- what is read now is what a stop may leave
pub allows-current : (before : DiskState) (desk : DeskState) → IsTouchedOnly before → kept before.current ≡ Ok desk → Allows before desk
allows-current before desk touched is = (before.current, touched, standing-kept before.current desk is)

-- a map that stands for what a stop may leave stands so by whatever is applied
stands-allowed : (found : Option Command) (before : DiskState) (desk : DeskState) → Allows before desk → (left : FileMap)
    → standing left ≡ Ok desk → StandsBy found before left
stands-allowed found before desk (other, may, stands) left is = inl (other, may, is ∙ sym stands)

applied-allowed : (before : DiskState) (desk : DeskState) (command : Command) → Allows before desk → (left : FileMap)
    → IsBeforeOrApplied desk command left → StandsBy (Some command) before left
applied-allowed before desk command allowed left (inl is) = stands-allowed (Some command) before desk allowed left is
applied-allowed before desk command allowed left (inr applied) = inr (desk, allowed, applied)

module _ {D : Type 0} (moment : D → ℕ) (left_since : D → ℕ → FileMap → Type 0) where
  -- nothing is done on the disk
  pub rests-as : (disk : D) (before : DiskState) → ((left : FileMap) → left_since disk (moment disk) left → MayLeave before left)
      → LeavesOnly moment left_since disk disk (StandsAsAt before)
  rests-as disk before only_now =
      LeavesOnly-from moment left_since disk disk (StandsAsAt before) (λ left was. (left, only_now left was, refl))
      (AddsOnly-none moment left_since disk (StandsAsAt before))

  -- nothing is done on a disk that keeps the policy state
  pub rests-kept : (disk : D) (before : DiskState) (desk : DeskState) (held : Option (List SetFile)) (command : Command)
      → IsKept desk held before → ((left : FileMap) → left_since disk (moment disk) left → MayLeave before left)
      → LeavesOnly moment left_since disk disk (IsBeforeOrApplied desk command)
  rests-kept disk before desk held command is only_now =
      LeavesOnly-from moment left_since disk disk (IsBeforeOrApplied desk command)
      (λ left was. inl (standing-kept left desk (is.alone left (only_now left was))))
      (AddsOnly-none moment left_since disk (IsBeforeOrApplied desk command))

  module _ (old new : D) where
    pub stands-as-at : (before : DiskState) → LeavesOnly moment left_since old new (RecoversAsAllowed before)
        → LeavesOnly moment left_since old new (StandsAsAt before)
    stands-as-at before leaves =
        LeavesOnly-more moment left_since old new (RecoversAsAllowed before) (StandsAsAt before)
        (λ left (other, may, same, others). (other, may, standing-alike left other same)) leaves

    pub stands-by : (found : Option Command) (before : DiskState) → LeavesOnly moment left_since old new (StandsAsAt before)
        → LeavesOnly moment left_since old new (StandsBy found before)
    stands-by found before leaves =
        LeavesOnly-more moment left_since old new (StandsAsAt before) (StandsBy found before) (λ left is. inl is) leaves

    -- a prepared state is one that the command leads to
    pub applies : (desk after : DeskState) (command : Command) → fault desk command ≡ None → after ≡ next desk command
        → LeavesOnly moment left_since old new (IsBeforeOrAfter desk after)
        → LeavesOnly moment left_since old new (IsBeforeOrApplied desk command)
    applies desk after command accepted is leaves =
        LeavesOnly-more moment left_since old new (IsBeforeOrAfter desk after) (IsBeforeOrApplied desk command)
        (λ left one. ⊎_elim (λ was. inl (standing-kept left desk was))
        (λ was. inr (accepted, standing-kept left after was ∙ ap Ok is)) one) leaves

  -- a command behind the settling
  pub stands-behind : (old mid new : D) (before : DiskState) (desk : DeskState) (command : Command) → Allows before desk
      → LeavesOnly moment left_since old mid (StandsAsAt before)
      → LeavesOnly moment left_since mid new (IsBeforeOrApplied desk command)
      → LeavesOnly moment left_since old new (StandsBy (Some command) before)
  stands-behind old mid new before desk command allowed first then =
      LeavesOnly-then moment left_since old mid new (StandsBy (Some command) before)
      (stands-by old mid (Some command) before first)
      (LeavesOnly-more moment left_since mid new (IsBeforeOrApplied desk command) (StandsBy (Some command) before)
      (applied-allowed before desk command allowed) then)

-- what a disk tells is one state
pub same-state : (told : Option DiskState) (one other : DiskState) → told ≡ Some one → told ≡ Some other → one ≡ other
same-state told one other first second = let same = sym first ∙ second in cc
