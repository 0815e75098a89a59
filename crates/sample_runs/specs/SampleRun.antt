-- What a run of `sample N` answers.
use Rattle.std.specs.Prelude.{◌≡◌, ℕ, List, [], Option, Some, None}
use Rattle.run_endings.specs.Saying.{Said}
use Rattle.run_endings.specs.declared.endings.Ending.{Ending}
use Rattle.run_endings.specs.declared.endings.Ending.TheVariants.{Done, Memory, Line, Sink}
use Rattle.sample_runs.specs.Sample.{Outcome, outcome, sample_text}

-- the answer tells what the script comes to
pub record IsTold (count : ℕ) (answer : List ℕ) : Type 0 where
  pub found : Outcome
  pub comes_to : outcome count ≡ Some found
  pub told : answer ≡ sample_text count found

-- The answer, for each way in which the run ends. It ends by a line only where one of the script is outside the
-- grammar, is no command among the commands, or asks nothing among the questions.
abbrev pub SampleAnswers : ℕ → Ending → List ℕ → Type 0
SampleAnswers count Done answer = IsTold count answer
SampleAnswers count Sink answer = IsTold count answer
SampleAnswers count Memory answer = answer ≡ []
SampleAnswers count (Line number) answer = (outcome count ≡ None) × (answer ≡ [])
SampleAnswers count ending answer = ⊥

abbrev pub RunsSample : ℕ → Said → Ending → Type 0
RunsSample count said ending = SampleAnswers count ending said.due
