-- What steps leave of a folder, put together from what each part of a run leaves.
use Rattle.std.proofs.Common.{◌≡◌, ◌≤◌, ◌⊎◌, inl, inr, ℕ, List, [], ◌∷◌, ◌++◌, length, Option, Ok, sym, ap, ◌∙◌, subst, ⊎_elim}
use Rattle.std.proofs.Math.Seq.{take-length}
use Rattle.desk_ports.specs.FileMap.{FileMap}
use Rattle.desk_ports.specs.Disk.{DiskState, MayLeave, WhereTold}
use Rattle.desk_ports.specs.Moments.{LeavesOnly}
use Rattle.desk_ports.specs.declared.file_sets.SetFile.{SetFile}
use Rattle.desk_ports.proofs.Moments.{AddsOnly-none, LeavesOnly-from, LeavesOnly-then, LeavesOnly-more}
use Rattle.desk_state.specs.DeskState.{DeskState}
use Rattle.desk_keeper.specs.Kept.{kept}
use Rattle.desk_keeper.specs.Keeping.{EndsKept, IsBeforeOrAfter}
use Rattle.line_script.specs.declared.steps.Step.{Step}
use Rattle.folder_runs.specs.Folder.{StandsWithin}
use Rattle.script_replies.specs.Script.{state_after}
use Rattle.script_replies.specs.Reply.{after}
use Rattle.folder_runs.specs.Keeping.{KeepsSteps, FailsToCommit, StandsStill, Commits, KeepsSoFar}
use Rattle.run_endings.specs.declared.endings.Ending.TheVariants.{Disk}
use Rattle.script_replies.proofs.Steps.{take-front, state_after-then}

pub within-more : (start : DeskState) (steps more : List Step) (map : FileMap) → StandsWithin start steps map
    → StandsWithin start (steps ++ more) map
within-more start steps more map (n, is) =
    let front = take-front n steps more in (front.0, is ∙ ap (λ steps. Ok (state_after start steps)) (sym front.1))

pub within-last : (start : DeskState) (steps : List Step) (desk : DeskState) → state_after start steps ≡ desk
    → (map : FileMap) → kept map ≡ Ok desk → StandsWithin start steps map
within-last start steps desk state map is =
    (length steps, is ∙ ap Ok (sym state) ∙ ap (λ steps. Ok (state_after start steps)) (sym (take-length steps)))

-- the state before or after one step more
within-next : (start : DeskState) (steps : List Step) (step : Step) (desk next : DeskState) → state_after start steps ≡ desk
    → next ≡ after desk step → (map : FileMap) → IsBeforeOrAfter desk next map → StandsWithin start (steps ++ step ∷ []) map
within-next start steps step desk next state is map (inl before) =
    within-more start steps (step ∷ []) map (within-last start steps desk state map before)
within-next start steps step desk next state is map (inr behind) =
    within-last start (steps ++ step ∷ []) next
    (state_after-then start steps (step ∷ []) ∙ ap (λ desk. after desk step) state ∙ sym is) map behind

module _ {D : Type 0} (state : D → Option DiskState) (moment : D → ℕ) (left_since : D → ℕ → FileMap → Type 0) where
  -- a stop at a disk on which nothing is done
  pub rests : (disk : D) (desk : DeskState) (held : Option (List SetFile))
      → ((left : FileMap) → WhereTold (state disk) (λ now. left_since disk (moment disk) left → MayLeave now left))
      → EndsKept desk held (state disk) → LeavesOnly moment left_since disk disk (λ left. kept left ≡ Ok desk)
  rests disk desk held only_now (now, told, is) =
      LeavesOnly-from moment left_since disk disk (λ left. kept left ≡ Ok desk)
      (λ left was. is.alone left (only_now left now told was)) (AddsOnly-none moment left_since disk (λ left. kept left ≡ Ok desk))

  module _ (first mid new : D) (start : DeskState) (held mid_held new_held : Option (List SetFile)) (desk now : DeskState)
      (steps : List Step) (so_far : KeepsSoFar state moment left_since first mid start held desk mid_held steps)
      (done : state_after start steps ≡ desk) where
    -- one step more, which changes nothing
    so-far-still : (step : Step) → StandsStill state moment left_since mid new desk mid_held now new_held
        → KeepsSoFar state moment left_since first new start held now new_held (steps ++ step ∷ [])
    so-far-still step (disk, same, set) begins =
        let before = so_far begins in
        rw (disk, same, set) (
          before.0,
          LeavesOnly-more moment left_since first mid (StandsWithin start steps) (StandsWithin start (steps ++ step ∷ []))
              (within-more start steps (step ∷ [])) before.1,
        )

    -- one step more, which is committed
    so-far-commits : (step : Step) → now ≡ after desk step
        → Commits state moment left_since mid new desk mid_held now new_held
        → KeepsSoFar state moment left_since first new start held now new_held (steps ++ step ∷ [])
    so-far-commits step is commits begins =
        let before = so_far begins in
        let behind = commits before.0 in
        let more = StandsWithin start (steps ++ step ∷ []) in (
          behind.0,
          LeavesOnly-then moment left_since first mid new more
              (LeavesOnly-more moment left_since first mid (StandsWithin start steps) more (within-more start steps (step ∷ [])) before.1)
              (LeavesOnly-more moment left_since mid new (IsBeforeOrAfter desk now) more
              (within-next start steps step desk now done is) behind.1),
        )

    -- one step more
    pub so-far-next : (step : Step) → now ≡ after desk step
        → StandsStill state moment left_since mid new desk mid_held now new_held
        ⊎ Commits state moment left_since mid new desk mid_held now new_held
        → KeepsSoFar state moment left_since first new start held now new_held (steps ++ step ∷ [])
    so-far-next step is (inl still) = so-far-still step still
    so-far-next step is (inr commits) = so-far-commits step is commits

    -- no step more, where the state stays
    pub so-far-ends : now ≡ desk
        → StandsStill state moment left_since mid new desk mid_held now new_held
        ⊎ Commits state moment left_since mid new desk mid_held now new_held
        → KeepsSoFar state moment left_since first new start held now new_held steps
    so-far-ends is (inl (disk, same, set)) begins = rw (disk, same, set) (so_far begins)
    so-far-ends is (inr commits) begins =
        let before = so_far begins in
        let behind = commits before.0 in (
          behind.0,
          LeavesOnly-then moment left_since first mid new (StandsWithin start steps) before.1
              (LeavesOnly-more moment left_since mid new (IsBeforeOrAfter desk now) (StandsWithin start steps)
              (λ map one. within-last start steps desk done map (⊎_elim (λ was. was) (λ was. was ∙ ap Ok is) one)) behind.1),
        )

    -- a commit that failed
    pub fails-over : (step : Step) (tried : DeskState) → tried ≡ after desk step
        → ((t : ℕ) (left : FileMap) → t ≤ moment new → WhereTold (state new) (λ after. MayLeave after left → left_since new t left))
        → FailsToCommit state moment left_since mid new desk mid_held tried
        → KeepsSteps state moment left_since first new start held Disk steps (steps ++ step ∷ [])
    fails-over step tried is counts_now fails begins =
        let before = so_far begins in
        let behind = fails before.0 in
        let more = StandsWithin start (steps ++ step ∷ []) in
        let next = state_after-then start steps (step ∷ []) ∙ ap (λ desk. after desk step) done ∙ sym is in (
          λ now told map may.
              ⊎_elim (λ was. inl (was ∙ ap Ok (sym done))) (λ was. inr (was ∙ ap Ok (sym next)))
              (behind.each map (counts_now (moment mid) map behind.adds.later now told may)),
          LeavesOnly-then moment left_since first mid new more
              (LeavesOnly-more moment left_since first mid (StandsWithin start steps) more (within-more start steps (step ∷ [])) before.1)
              (LeavesOnly-more moment left_since mid new (IsBeforeOrAfter desk tried) more
              (within-next start steps step desk tried done is) behind),
        )

  -- what a folder keeps at the end, where no commit failed
  pub keeps-rest : (first new : D) (start : DeskState) (held new_held : Option (List SetFile)) (now : DeskState) (steps : List Step)
      → KeepsSoFar state moment left_since first new start held now new_held steps → state_after start steps ≡ now
      → EndsKept start held (state first)
      → ((held : Option (List SetFile)) × EndsKept (state_after start steps) held (state new))
      × LeavesOnly moment left_since first new (StandsWithin start steps)
  keeps-rest first new start held new_held now steps so_far done begins =
      let before = so_far begins in
      ((new_held, subst (λ desk. EndsKept desk new_held (state new)) (sym done) before.0), before.1)
