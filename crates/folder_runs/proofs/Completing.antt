-- A run of `smack-load` that no failing call stops.
use Rattle.std.proofs.Common.{◌≡◌, ◌⊎◌, inl, inr, Ok, Err, refl, sym, ap, ◌∙◌}
use Rattle.desk_state.specs.DeskState.{DeskState}
use Rattle.desk_keeper.specs.Kept.{kept}
use Rattle.run_endings.specs.Ending.{IsUnfailed}
use Rattle.run_endings.specs.Outside.{DiskSeen}
use Rattle.run_endings.specs.Saying.{Said}
use Rattle.run_endings.specs.declared.endings.Ending.{Ending}
use Rattle.run_endings.specs.declared.endings.Ending.TheVariants.{Done, Memory, Words, Line, Source, Sink, Disk, Net, Damaged, Reply}
use Rattle.run_endings.specs.declared.endings.Ending.TheVariants.{TooLong}
use Rattle.folder_runs.specs.Folder.{RefusesMount, StandsFor}
use Rattle.folder_runs.specs.LoadRun.{loads_text, LoadAnswers, RunsLoad}

module _ (said : Said) (disk disk_after : DiskSeen) (start : DeskState) (stands : StandsFor disk start) where
  -- a folder that stands for a state is mounted
  pub refused : (ending : Ending) → IsUnfailed ending → RefusesMount disk.state ending → ending ≡ Memory
  refused Disk unfailed refuses = absurd unfailed
  refused Memory unfailed refuses = refl
  refused (Damaged file line) unfailed refuses =
      let damaged = refuses stands.0 stands.1 in
      let whole = stands.2 in
      cc
  refused ending unfailed refuses = absurd refuses

  loads : (ending : Ending) (first : DeskState) → start ≡ first → IsUnfailed ending → LoadAnswers first ending said.due
      → ((ending ≡ Done) × (said.due ≡ loads_text start)) ⊎ (ending ≡ Memory)
  loads Done first same unfailed answers = inl (refl, answers ∙ ap loads_text (sym same))
  loads Memory first same unfailed answers = inr refl
  loads Sink first same unfailed answers = absurd unfailed
  loads ending first same unfailed answers = absurd answers

  pub completes-load : (ending : Ending) → IsUnfailed ending → RunsLoad said ending disk disk_after
      → ((ending ≡ Done) × (said.due ≡ loads_text start)) ⊎ (ending ≡ Memory)
  completes-load ending unfailed (inl refuses) = inr (refused ending unfailed refuses.refused)
  completes-load ending unfailed (inr run) =
      let stood = (run.folder stands.0 stands.1).stood in
      let whole = stands.2 in
      let same : start ≡ run.start = cc in
      loads ending run.start same unfailed run.answered
