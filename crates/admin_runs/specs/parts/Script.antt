-- A whole script for a service is read, and what it asks for is sent.
use Rattle.std.specs.Prelude.{◌≡◌, ◌+◌, ℕ, true, false, List, Option, Result, Ok, Err}
use Rattle.line_script.specs.Block.{Block}
use Rattle.line_script.specs.Turn.{is_in_block}
use Rattle.line_script.specs.declared.steps.Step.{Step}
use Rattle.wire_fields.specs.declared.messages.Message.{Message}
use Rattle.run_endings.specs.Outside.{HadInput}
use Rattle.run_endings.specs.declared.endings.Ending.{Ending}
use Rattle.run_endings.specs.declared.endings.Ending.TheVariants.{Line}
use Rattle.admin_runs.specs.AdminRun.{HasRead, messages_of}

-- These steps were read of the input, and their messages were due.
pub record SendsAll (Talks : List Message → Ending → Type 0) (left left_after : Option (List ℕ))
    (ending : Ending) : Type 0 where
  pub input : List ℕ
  pub rest : List ℕ
  pub steps : List Step
  pub had : HadInput left left_after input rest
  pub read : HasRead ending input rest steps
  pub talks : Talks (messages_of steps) ending

-- behind the last line no block may be open
abbrev pub EndsScript : Block → ℕ → Result (Unit {0}) Ending → Type 0
EndsScript block number (Ok value) = is_in_block block ≡ false
EndsScript block number (Err (Line wrong)) = (is_in_block block ≡ true) × (wrong ≡ number + 1)
EndsScript block number (Err ending) = ⊥
