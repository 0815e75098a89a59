-- How far the generated script is gone through.
use Rattle.std.specs.Prelude.{◌≡◌, List, ◌++◌, Option, None, Result, Ok, Err, ℕ}
use Rattle.run_endings.specs.declared.endings.Ending.{Ending}
use Rattle.run_endings.specs.declared.endings.Ending.TheVariants.{Memory, Line}
use Rattle.sample_runs.specs.Sample.{Stand, each_line}
use Rattle.sample_runs.specs.declared.samples.Sample.{Sample}

abbrev pub stand_of : Sample → Stand
stand_of sample = record { block = sample.reader; desk = sample.desk }

-- what is next is not reached: memory ran out, or there is nothing
abbrev pub StopsAt : {A : Type 0} → Option A → Ending → Type 0
StopsAt next Memory = Unit {0}
StopsAt next (Line number) = next ≡ None
StopsAt next ending = ⊥

-- these lines were gone through by this step, whatever comes behind them; or the script stops in them
abbrev pub Goes : {S : Type 0} → (List ℕ → S → Option S) → List (List ℕ) → S → S → Result (Unit {0}) Ending → Type 0
Goes step lines before after (Ok value) =
    (rest : List (List ℕ)) → each_line step (lines ++ rest) before ≡ each_line step rest after
Goes step lines before after (Err ending) = (rest : List (List ℕ))
    → StopsAt (each_line step (lines ++ rest) before) ending
