-- What the lines of a script make of a policy state.
use Rattle.std.specs.Prelude.{◌≡◌, ℕ, if◌then◌else◌, List, [], ◌∷◌, Option, Some, None, option_and_then}
use Rattle.text_lines.specs.Lines.{lines_of}
use Rattle.line_script.specs.Block.{Block, outside}
use Rattle.line_script.specs.Grammar.{step_at}
use Rattle.line_script.specs.Turn.{is_in_block}
use Rattle.script_words.specs.declared.places.Place.TheVariants.{Admin}
use Rattle.line_script.specs.declared.steps.Step.{Step}
use Rattle.line_script.specs.declared.steps.Step.TheVariants as step
use Rattle.desk_state.specs.DeskState.{DeskState}
use Rattle.desk_state.specs.Next.{next}
use Rattle.desk_state.specs.Rules.{fault}
use Rattle.desk_state.specs.declared.commands.Command.{Command}
use Rattle.desk_state.specs.declared.refusals.Refusal.{Refusal}

-- a refused command leaves the state as it was
abbrev pub applied : DeskState → Command → Option Refusal → DeskState
applied desk command None = next desk command
applied desk command (Some refusal) = desk

-- the state behind a step: a question changes nothing
abbrev pub after : DeskState → Step → DeskState
after desk (step.Command command) = applied desk command (fault desk command)
after desk other = desk

-- The state behind these lines, which are read from this block on; a refused line leaves the state as it was. None
-- where a line is outside the grammar, or the last one stands within a block.
abbrev pub state_behind : Block → DeskState → List (List ℕ) → Option DeskState
state_behind block desk [] = if is_in_block block then None else Some desk
state_behind block desk (line ∷ lines) =
    option_and_then (λ read. state_behind read.0 (after desk read.1) lines) (step_at block line)

-- what a script makes of a state
abbrev pub made_by : List ℕ → DeskState → Option DeskState
made_by script desk = state_behind (outside Admin) desk (lines_of script)

-- A line was read and run: the block and the state behind it are those that its step gives.
abbrev pub RunsLine : Block → DeskState → List ℕ → Block → DeskState → Type 0
RunsLine block desk line block_after desk_after =
    (read : Step) × (step_at block line ≡ Some (block_after, read)) × (desk_after ≡ after desk read)
