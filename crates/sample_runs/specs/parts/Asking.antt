-- How far the questions of the generated script are asked.
use Rattle.std.specs.Prelude.{◌≡◌, List, Option, Some, Result, Ok, Err, ℕ}
use Rattle.std.specs.Option.{option_map}
use Rattle.run_endings.specs.declared.endings.Ending.{Ending}
use Rattle.sample_runs.specs.Lines.{questions}
use Rattle.sample_runs.specs.Sample.{Asked, each_line, ask_line, outcome, sample_text, none_asked}
use Rattle.sample_runs.specs.SampleRun.{IsTold}
use Rattle.sample_runs.specs.parts.Following.{StopsAt}
use Rattle.sample_runs.specs.declared.samples.Sample.{Sample}
use Rattle.sample_runs.specs.declared.tallies.Tally.{Tally}

abbrev pub asked_of : Sample → Tally → Asked
asked_of sample tally = record { block = sample.reader; tally = tally }

-- all questions of the script, from where its commands ended
abbrev pub AsksAll : Sample → ℕ → Result Tally Ending → Type 0
AsksAll sample count (Ok tally) =
    option_map (λ asked. asked.tally)
    (each_line (ask_line sample.desk.database) (questions count) (none_asked sample.reader)) ≡ Some tally
AsksAll sample count (Err ending) =
    StopsAt (option_map (λ asked. asked.tally)
    (each_line (ask_line sample.desk.database) (questions count) (none_asked sample.reader))) ending

-- the answer tells what the script comes to, or the script stops
abbrev pub Tells : ℕ → Result (List ℕ) Ending → Type 0
Tells count (Ok text) = IsTold count text
Tells count (Err ending) = StopsAt (outcome count) ending
