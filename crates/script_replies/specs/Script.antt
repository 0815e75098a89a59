-- What a script is, and how it is answered: from its bytes to its steps, and from a policy state along them.
use Rattle.std.specs.Prelude.{◌≡◌, ℕ, ◌+◌, ◌<◌, take, nat_lt, if◌then◌else◌, List, [], ◌∷◌, ◌++◌, length, Option, Some}
use Rattle.std.specs.Prelude.{None, Result, Ok, Err}
use Rattle.std.specs.Option.{option_map_or}
use Rattle.text_lines.specs.Lines.{pieces_of, lines_within}
use Rattle.line_script.specs.Block.{Block, outside}
use Rattle.line_script.specs.Grammar.{step_at}
use Rattle.line_script.specs.Turn.{is_in_block}
use Rattle.script_words.specs.declared.places.Place.{Place}
use Rattle.line_script.specs.declared.steps.Step.{Step}
use Rattle.desk_state.specs.DeskState.{DeskState}
use Rattle.private_sharing.specs.declared.shares.Share.{Share}
use Rattle.script_replies.specs.Reply.{reply, after, shares_after}
use Rattle.script_replies.specs.Limits.{most_line_bytes, most_script_bytes}

-- where the reading of a script stands behind a line: in which block, and the number of the line that comes next
pub record Standing : Type 0 where
  pub block : Block
  pub number : ℕ

-- the steps of lines before the first wrong one, and where the reading then stands, or the number of that line
pub record Script : Type 0 where
  pub steps : List Step
  pub stands : Result Standing ℕ

-- The step of a line and the block behind it. There is none where a byte past the script's limit stands in the line,
-- where the line is longer than a line may be, or where it is outside the grammar.
abbrev pub line_step : Block → Option (List ℕ) → Option (Block × Step)
line_step block None = None
line_step block (Some line) = if nat_lt most_line_bytes (length line) then None else step_at block line

-- a script with this step before its other ones
abbrev pub with_step : Step → Script → Script
with_step step script = record script { steps = step ∷ script.steps }

-- the steps of these lines, which are read from this standing on
abbrev pub read_lines : ℕ → Block → List (Option (List ℕ)) → Script
read_lines number block [] = record { steps = []; stands = Ok (record { block = block; number = number }) }
read_lines number block (line ∷ lines) =
    option_map_or
    (λ read. with_step read.1 (read_lines (number + 1) read.0 lines))
    (line_step block line)
    (record { steps = []; stands = Err number })

-- what the bytes of a script for this place say
abbrev pub read_script : Place → List ℕ → Script
read_script place bytes = read_lines 1 (outside place) (lines_within most_script_bytes (pieces_of bytes))

-- the number of the first wrong line of a whole script; one that ends within a block is wrong behind its last line
abbrev pub wrong_at : Result Standing ℕ → Option ℕ
wrong_at (Err number) = Some number
wrong_at (Ok standing) = if is_in_block standing.block then Some standing.number else None

abbrev pub wrong_line : Script → Option ℕ
wrong_line script = wrong_at script.stands

-- the answers to steps, each at the state and with the shares that those before it leave
abbrev pub replies : DeskState → List Share → List Step → List ℕ
replies desk shares [] = []
replies desk shares (step ∷ steps) = reply desk shares step ++ replies (after desk step)
    (shares_after desk shares step) steps

-- the state behind steps
abbrev pub state_after : DeskState → List Step → DeskState
state_after desk [] = desk
state_after desk (step ∷ steps) = state_after (after desk step) steps

-- the shares behind steps
abbrev pub shares_behind : DeskState → List Share → List Step → List Share
shares_behind desk shares [] = shares
shares_behind desk shares (step ∷ steps) = shares_behind (after desk step) (shares_after desk shares step) steps

-- No command was committed while an answer to a step before it was still to be written: where not all answers to the
-- first few steps were written, the later steps changed no state. At the start no share is open.
abbrev pub AreInTurn : DeskState → List Step → List ℕ → Type 0
AreInTurn start answered written =
    (n : ℕ) → length written < length (replies start [] (take n answered))
    → state_after start (take n answered) ≡ state_after start answered
