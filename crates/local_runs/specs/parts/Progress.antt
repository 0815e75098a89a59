-- How far a script is read and answered.
use Rattle.std.specs.Prelude.{◌≡◌, ℕ, List, [], ◌++◌, Option, Result, Ok, Err}
use Rattle.desk_ports.specs.Content.{Appended}
use Rattle.text_lines.specs.LineReader.{LineReading}
use Rattle.line_script.specs.declared.steps.Step.{Step}
use Rattle.desk_state.specs.DeskState.{DeskState}
use Rattle.script_replies.specs.Script.{replies, state_after, shares_behind, AreInTurn}
use Rattle.script_replies.specs.Reading.{Goes}
use Rattle.script_words.specs.declared.places.Place.TheVariants.{Local}
use Rattle.run_endings.specs.Outside.{HadInput}
use Rattle.run_endings.specs.Saying.{IsCut}
use Rattle.local_runs.specs.LocalRun.{HasRead, AreAnswered}
use Rattle.run_endings.specs.declared.endings.Ending.{Ending}
use Rattle.run_endings.specs.declared.endings.Ending.TheVariants.{Done, Source, Sink, Disk}
use Rattle.local_runs.specs.declared.local_script.LocalScript.{LocalScript}

module _ (start : DeskState) (taken taken_now : Option (List ℕ)) (now : LocalScript) (desk : DeskState) where
  -- These steps were answered; what is written and what waits are the answers.
  pub record Progress (steps : List Step) : Type 0 where
    pub written : List ℕ
    pub appended : Appended taken written taken_now
    pub answered : replies start [] steps ≡ written ++ now.answers
    pub state : state_after start steps ≡ desk
    pub sharing : shares_behind start [] steps ≡ now.shares
    pub in_turn : AreInTurn start steps written

-- the script is read so far, and its steps are answered, with what they keep: of the folder, say
abbrev pub GoesOn : (List Step → Type 0) → DeskState → Option (List ℕ) → Option (List ℕ) → Option (List ℕ)
    → Option (List ℕ)
    → LocalScript → DeskState → LineReading → Type 0
GoesOn Kept start left left_now taken taken_now now desk reading =
    Goes Local left left_now now.reader reading (λ steps. Progress start taken taken_now now desk steps × Kept steps)

abbrev pub ending_of : Result (Unit {0}) Ending → Ending
ending_of (Ok value) = Done
ending_of (Err ending) = ending

-- what was handed to the sink of these answers, and what waits of them
abbrev pub AreHanded : Ending → List ℕ → List ℕ → List ℕ → Type 0
AreHanded Done answers written waiting = (written ≡ answers) × (waiting ≡ [])
AreHanded Source answers written waiting = (written ≡ answers) × (waiting ≡ [])
AreHanded Disk answers written waiting = (written ≡ answers) × (waiting ≡ [])
AreHanded Sink answers written waiting = IsCut written answers
AreHanded ending answers written waiting = answers ≡ written ++ waiting

-- a script is read and answered as this ending says, but for the answers that wait
pub record Answers (start : DeskState) (ending : Ending) (waiting : List ℕ)
    (left left_after taken taken_after : Option (List ℕ))
    : Type 0 where
  pub input : List ℕ
  pub rest : List ℕ
  pub steps : List Step
  pub answered : List Step
  pub written : List ℕ
  pub had : HadInput left left_after input rest
  pub read : HasRead ending input rest steps
  pub are_answered : AreAnswered ending start answered steps
  pub in_turn : AreInTurn start answered written
  pub appended : Appended taken written taken_after
  pub handed : AreHanded ending (replies start [] answered) written waiting
