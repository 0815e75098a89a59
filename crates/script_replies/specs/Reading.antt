-- How far a script is read, line by line, whatever is done with its steps.
use Rattle.std.specs.Prelude.{◌≡◌, ◌≤◌, ◌+◌, ◌⊎◌, ℕ, true, List, [], ◌++◌, length, Option, Some, None, IsOk}
use Rattle.desk_ports.specs.Content.{Took, ReadToEnd}
use Rattle.text_lines.specs.Lines.{HasNoNewline, pieces_of, lines_within, AreWholeLines}
use Rattle.text_lines.specs.LineReader.{LineReading}
use Rattle.line_script.specs.Block.{Block}
use Rattle.script_words.specs.declared.places.Place.{Place}
use Rattle.line_script.specs.declared.steps.Step.{Step}
use Rattle.run_endings.specs.Outside.{HadInput}
use Rattle.script_replies.specs.Script.{Script, read_lines, read_script, wrong_line}
use Rattle.script_replies.specs.Limits.{most_line_bytes, most_script_bytes}

module _ (place : Place) where
  -- Some whole lines at the front of the input have these steps, and none of them is wrong; they may end within a
  -- block. Other bytes were read behind them. At the end of the input the last line needs no newline.
  pub record ReadsLines (input rest : List ℕ) (steps : List Step) : Type 0 where
    pub lines : List ℕ
    pub behind : List ℕ
    pub parts : input ≡ (lines ++ behind) ++ rest
    pub whole : AreWholeLines lines ⊎ (behind ++ rest ≡ [])
    pub right : IsOk (read_script place lines).stands
    pub steps_are : steps ≡ (read_script place lines).steps

  -- What was read behind these lines is no whole line, and no longer than one may be.
  pub record ReadsAllLines (input rest : List ℕ) (steps : List Step) : Type 0 where
    pub reads : ReadsLines input rest steps
    pub unfinished : HasNoNewline reads.behind
    pub short : length reads.behind ≤ most_line_bytes

-- a script with these steps before its other ones
abbrev pub with_steps : List Step → Script → Script
with_steps steps script = record script { steps = steps ++ script.steps }

-- the source has given its end, and nothing waits
abbrev pub IsOver : LineReading → Type 0
IsOver reading = (reading.is_ended ≡ true) × (reading.waiting ≡ [])

-- the source gave some bytes, and none where it had given its end before
pub record Gives (left left_after : Option (List ℕ)) (reading : LineReading) : Type 0 where
  pub given : List ℕ
  pub took : Took left given left_after
  pub ended : reading.is_ended ≡ true → given ≡ []

module _ (place : Place) (left left_now : Option (List ℕ)) (block : Block) (reading : LineReading) where
  -- These lines were read, and have these steps; the reading goes on behind them in this block.
  pub record Reads : Type 0 where
    pub lines : List ℕ
    pub steps : List Step
    pub took : Took left (lines ++ reading.waiting) left_now
    pub whole : AreWholeLines lines ⊎ IsOver reading
    pub read : (more : List ℕ) → (IsOver reading → more ≡ [])
        → read_script place (lines ++ more)
        ≡ with_steps steps (read_lines (reading.number + 1) block (lines_within reading.room (pieces_of more)))
    pub ended : reading.is_ended ≡ true → ReadToEnd left left_now
    pub longest : reading.longest ≡ most_line_bytes
    pub within : reading.number + reading.room ≤ most_script_bytes

  -- the same, with what is said of the steps: what came of them, say
  abbrev pub Goes : (List Step → Type 0) → Type 0
  Goes Kept = (reads : Reads) × Kept reads.steps

-- what is said of the input of a source, and of what is left of it
abbrev pub Has : Option (List ℕ) → Option (List ℕ) → (List ℕ → List ℕ → Type 0) → Type 0
Has left left_after P = (input : List ℕ) × (rest : List ℕ) × HadInput left left_after input rest × P input rest

-- The first wrong line of the whole input is this one; the lines before it have these steps.
pub record MeetsWrongLine (place : Place) (number : ℕ) (steps : List Step) (input rest : List ℕ) : Type 0 where
  pub wrong : wrong_line (read_script place input) ≡ Some number
  pub steps_are : steps ≡ (read_script place input).steps
  pub reads : ReadsLines place input rest steps

-- The input was read to its end, and no line of it is wrong.
pub record ReadsWhole (place : Place) (steps : List Step) (input rest : List ℕ) : Type 0 where
  pub over : rest ≡ []
  pub right : wrong_line (read_script place input) ≡ None
  pub steps_are : steps ≡ (read_script place input).steps
