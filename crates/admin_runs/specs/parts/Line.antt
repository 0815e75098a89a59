-- One line of a script for a service is read, and what it asks for is sent.
use Rattle.std.specs.Prelude.{◌≡◌, ◌⊎◌, ℕ, Bool, true, false, List, [], ◌∷◌, Option, Some, None, Result, Ok, Err}
use Rattle.text_lines.specs.LineReader.{LineReading, HandsOut, Ends}
use Rattle.line_script.specs.Block.{Block}
use Rattle.line_script.specs.Grammar.{step_at}
use Rattle.line_script.specs.declared.steps.Step.{Step}
use Rattle.script_replies.specs.NextLine.{ReadsNext}
use Rattle.wire_fields.specs.declared.messages.Message.{Message}
use Rattle.run_endings.specs.declared.endings.Ending.{Ending}
use Rattle.run_endings.specs.declared.endings.Ending.TheVariants.{Done, Memory, Line}
use Rattle.admin_runs.specs.AdminRun.{messages_of}
use Rattle.admin_runs.specs.parts.Talk.{IsStop}

-- `Talks` says what was sent and written, for the messages that were due and the way in which the run ends.
module _ (Talks : List Message → Ending → Type 0) (block next : Block) where
  -- the line has this step, and its message was due
  pub record TakesLine (line : List ℕ) (ending : Ending) : Type 0 where
    pub step : Step
    pub reads : step_at block line ≡ Some (next, step)
    pub talks : Talks (messages_of (step ∷ [])) ending

  -- The run ends at this line: it is outside the grammar, or memory ran out before its message was made, or its message
  -- ended the run.
  pub data StopsAtLine (line : List ℕ) (number : ℕ) (ending : Ending) : Type 0 where
    wrong : ending ≡ Line number → step_at block line ≡ None → Talks [] ending → StopsAtLine line number ending
    unread : ending ≡ Memory → Talks [] ending → StopsAtLine line number ending
    stopped : IsStop ending → TakesLine line ending → StopsAtLine line number ending

  abbrev pub SendsLine : List ℕ → ℕ → Result (Unit {0}) Ending → Type 0
  SendsLine line number (Ok value) = TakesLine line Done
  SendsLine line number (Err ending) = StopsAtLine line number ending

  module _ (left left_after : Option (List ℕ)) (reading reading_after : LineReading) where
    -- the run ends before the next line, or at it
    abbrev pub StopsNext : Ending → Type 0
    StopsNext ending =
        (ReadsNext left left_after reading reading_after (Err ending) × Talks [] ending)
        ⊎ (HandsOut left left_after reading reading_after × StopsAtLine reading_after.line reading_after.number ending)

    -- the next line is read, and its message sent; or no line is left
    abbrev pub Turns : Result Bool Ending → Type 0
    Turns (Ok true) = HandsOut left left_after reading reading_after × TakesLine reading_after.line Done
    Turns (Ok false) = Ends left left_after reading reading_after × (next ≡ block) × Talks [] Done
    Turns (Err ending) = StopsNext ending
