-- A run of `local` that no failing call stops.
use Rattle.std.proofs.Common.{◌≡◌, [], ◌⊎◌, inl, inr, ℕ, List, Option, Some, None, refl, sym, ap, ◌∙◌, subst}
use Rattle.desk_state.specs.DeskState.{DeskState}
use Rattle.run_endings.specs.Ending.{IsUnfailed}
use Rattle.run_endings.specs.Outside.{SourceSeen, DiskSeen, HadInput}
use Rattle.run_endings.specs.Saying.{Said}
use Rattle.run_endings.specs.declared.endings.Ending.{Ending}
use Rattle.run_endings.specs.declared.endings.Ending.TheVariants.{Done, Memory, Line, Source, Sink, Disk, Damaged}
use Rattle.script_replies.specs.Script.{wrong_line, replies}
use Rattle.folder_runs.specs.Folder.{RefusesMount, StandsFor}
use Rattle.local_runs.specs.LocalRun.{read_local, AnswersScript, RunsLocal}

module _ (said : Said) (source source_after : SourceSeen) (disk disk_after : DiskSeen) (input : List ℕ)
    (start : DeskState)
    (told : source.left ≡ Some input) (right : wrong_line (read_local input) ≡ None) (stands : StandsFor disk start) where
  abbrev pub answer : List ℕ
  answer = replies start [] (read_local input).steps

  -- a folder that stands for a state is mounted
  refused : (ending : Ending) → IsUnfailed ending → RefusesMount disk.state ending → ending ≡ Memory
  refused Disk unfailed refuses = absurd unfailed
  refused Memory unfailed refuses = refl
  refused (Damaged file line) unfailed refuses =
      let damaged = refuses stands.0 stands.1 in
      let whole = stands.2 in
      cc
  refused ending unfailed refuses = absurd refuses

  -- the input is the one that the source tells
  same-input : (other rest : List ℕ) → HadInput source.left source_after.left other rest → input ≡ other
  same-input other rest had =
      (subst (λ (left : Option (List ℕ)). HadInput left source_after.left other rest) told had).0

  over : (ending : Ending) (first : DeskState) → start ≡ first → IsUnfailed ending
      → AnswersScript first said ending source source_after → ((ending ≡ Done) × (said.due ≡ answer))
      ⊎ (ending ≡ Memory)
  over Done first same unfailed script =
      let input_is = same-input script.input script.rest script.had in
      let steps = sym script.are_answered
      ∙ (script.read.steps_are ∙ ap (λ bytes. (read_local bytes).steps) (sym input_is)) in
      inl (refl, script.due ∙ (ap (replies first []) steps ∙ ap (λ desk. replies desk [] (read_local input).steps) (sym same)))
  over Memory first same unfailed script = inr refl
  over (Line number) first same unfailed script =
      let input_is = same-input script.input script.rest script.had in
      let wrong : Some number ≡ None = sym script.read.wrong
      ∙ (ap (λ bytes. wrong_line (read_local bytes)) (sym input_is) ∙ right) in
      cc
  over Source first same unfailed script = absurd unfailed
  over Sink first same unfailed script = absurd unfailed
  over Disk first same unfailed script = absurd unfailed
  over ending first same unfailed script = absurd script.read

  pub completes-local : (ending : Ending) → IsUnfailed ending
      → RunsLocal said ending source source_after disk disk_after
      → ((ending ≡ Done) × (said.due ≡ answer)) ⊎ (ending ≡ Memory)
  completes-local ending unfailed (inl refuses) = inr (refused ending unfailed refuses.folder.refused)
  completes-local ending unfailed (inr run) =
      let stood = (run.folder stands.0 stands.1).stood in
      let whole = stands.2 in
      let same : start ≡ run.start = cc in
      over ending run.start same unfailed run.script
