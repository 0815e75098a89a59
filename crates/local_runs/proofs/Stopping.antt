-- What a folder keeps at a turn that stops a run.
use Rattle.std.proofs.Common.{◌≡◌, ◌≤◌, inl, ℕ, List, Option, Err, ap, ◌∙◌, sym}
use Rattle.desk_ports.specs.FileMap.{FileMap}
use Rattle.desk_ports.specs.Disk.{DiskState, MayLeave, WhereTold}
use Rattle.desk_ports.specs.declared.file_sets.SetFile.{SetFile}
use Rattle.text_lines.specs.LineReader.{LineReading}
use Rattle.desk_state.specs.DeskState.{DeskState}
use Rattle.line_script.specs.Grammar.{step_at}
use Rattle.line_script.specs.declared.steps.Step.{Step}
use Rattle.script_replies.specs.Reply.{after}
use Rattle.script_replies.specs.Script.{state_after}
use Rattle.folder_runs.specs.Keeping.{KeepsSteps, KeepsSoFar, StandsStill, Moves}
use Rattle.local_runs.specs.parts.Local.{Turns, step_of}
use Rattle.run_endings.specs.declared.endings.Ending.{Ending}
use Rattle.run_endings.specs.declared.endings.Ending.TheVariants.{Done, Memory, Words, Line, Source, Sink, Disk, Net}
use Rattle.run_endings.specs.declared.endings.Ending.TheVariants.{Damaged, Reply, TooLong}
use Rattle.local_runs.specs.declared.local_script.LocalScript.{LocalScript}
use Rattle.local_runs.proofs.Answering.{KeptAt}
use Rattle.folder_runs.proofs.Keeping.{so-far-ends, fails-over, keeps-rest}

module _ {D : Type 0} (state : D → Option DiskState) (moment : D → ℕ) (left_since : D → ℕ → FileMap → Type 0)
    (first mid new : D) (start : DeskState) (held mid_held new_held : Option (List SetFile)) (desk now : DeskState)
    (steps : List Step) (so_far : KeepsSoFar state moment left_since first mid start held desk mid_held steps)
    (done : state_after start steps ≡ desk) where
  abbrev Keeps : Ending → List Step → List Step → Type 0
  Keeps = KeepsSteps state moment left_since first new start held

  -- nothing was done
  still : StandsStill state moment left_since mid new desk mid_held now new_held
      → KeepsSteps state moment left_since first new start held Done steps steps
  still stands =
      keeps-rest state moment left_since first new start held new_held now steps
      (so-far-ends state moment left_since first mid new start held mid_held new_held desk now steps so_far done stands.1 (inl stands))
      (done ∙ sym stands.1)

  pub kept-at : (left_now left_after taken_now taken_after : Option (List ℕ)) (script new_script : LocalScript)
      (reading reading_after : LineReading)
      → ((t : ℕ) (left : FileMap) → t ≤ moment new → WhereTold (state new)
      (λ after. MayLeave after left → left_since new t left))
      → (ending : Ending)
      → (turn : Turns left_now left_after taken_now taken_after script new_script desk now reading reading_after
      (Err ending))
      → Moves state moment left_since mid new desk mid_held now new_held {A = Unit {0}}
      (after desk (step_of (step_at script.reader reading_after.line))) (Err ending)
      → KeptAt Keeps start left_now left_after taken_now taken_after script new_script desk now reading reading_after steps ending turn
  kept-at left_now left_after taken_now taken_after script new_script reading reading_after counts_now Disk turn moves =
      fails-over state moment left_since first mid new start held mid_held new_held desk now steps so_far done turn.fails.step _
      (ap (λ read. after desk (step_of read)) turn.fails.reads) counts_now moves
  kept-at left_now left_after taken_now taken_after script new_script reading reading_after counts_now Memory turn moves =
      still moves
  kept-at left_now left_after taken_now taken_after script new_script reading reading_after counts_now
      (Line number) turn moves =
      still moves
  kept-at left_now left_after taken_now taken_after script new_script reading reading_after counts_now Source turn moves =
      still moves
  kept-at left_now left_after taken_now taken_after script new_script reading reading_after counts_now Sink turn moves =
      still moves
  kept-at left_now left_after taken_now taken_after script new_script reading reading_after counts_now Done turn moves = absurd turn
  kept-at left_now left_after taken_now taken_after script new_script reading reading_after counts_now Words turn moves = absurd turn
  kept-at left_now left_after taken_now taken_after script new_script reading reading_after counts_now Net turn moves =
      absurd turn
  kept-at left_now left_after taken_now taken_after script new_script reading reading_after counts_now Reply turn moves =
      absurd turn
  kept-at left_now left_after taken_now taken_after script new_script reading reading_after counts_now
      (TooLong size) turn moves =
      absurd turn
  kept-at left_now left_after taken_now taken_after script new_script reading reading_after counts_now
      (Damaged file line) turn moves =
      absurd turn
