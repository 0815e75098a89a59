use Rattle.std.proofs.Common.{◌≡◌, ◌∙◌, ℕ, Option, Some, sym, ap}
use Rattle.sample_runs.specs.Sample.{Outcome, outcome}
use Rattle.sample_runs.specs.parts.Following.{stand_of}
use Rattle.sample_runs.specs.declared.tallies.Tally.{Tally}
use Rattle.sample_runs.proofs.Telling.{outcome-unprepared, outcome-unasked, outcome-is}
use Rattle.sample_runs.proofs.sample_runs.sample_answer.Goals as goal

abbrev outcome_of : Tally → ℕ → Outcome
outcome_of tally commits = record { commits = commits; tally = tally }

pub returns-in-Err : goal.returns-in-Err
returns-in-Err c = outcome-unprepared c.args.count c.in-Err.ending c.in-Err.ensures.err

pub returns-in-Err-ask_all : goal.returns-in-Err-ask_all
returns-in-Err-ask_all c =
    outcome-unasked c.args.count (stand_of c.in-Ok.sample) c.in-Ok.ensures.ok c.in-Err-ask_all.ending c.in-Err-ask_all.ensures

pub returns-in-Ok-print_outcome : goal.returns-in-Ok-print_outcome
returns-in-Ok-print_outcome c =
    let tally = c.in-Ok-ask_all.tally in
    record {
      found = outcome_of tally c.commit-commits.result;
      comes_to = outcome-is c.args.count (stand_of c.in-Ok.sample) c.in-Ok.ensures.ok tally c.in-Ok-ask_all.ensures
          ∙ ap (λ (commits : ℕ). Some (outcome_of tally commits)) (sym c.commit-commits.ensures.commit);
      told = c.in-Ok-print_outcome.ensures;
    }
