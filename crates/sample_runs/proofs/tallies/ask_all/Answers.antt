use Rattle.std.proofs.Common.{◌≡◌, ◌∙◌, Some, subst, refl}
use Rattle.std.specs.Option.{option_map}
use Rattle.bucket_store.specs.Database.{Database}
use Rattle.sample_runs.specs.Lines.{questions}
use Rattle.sample_runs.specs.Sample.{Asked, each_line, ask_line, none_asked}
use Rattle.sample_runs.specs.parts.Asking.{asked_of}
use Rattle.sample_runs.specs.parts.Following.{StopsAt}
use Rattle.sample_runs.proofs.Telling.{asks-through, asks-stops}
use Rattle.sample_runs.proofs.tallies.ask_all.Goals as goal

pub returns-in-Ok-ask_over : goal.returns-in-Ok-ask_over
returns-in-Ok-ask_over c =
    let sample = c.args.sample.now in
    let same : c.in-Ok.index ≡ sample.desk.database = c.in-Ok.ensures ∙ c.database.ensures.database in
    subst (λ (database : Database). option_map (λ (asked : Asked). asked.tally)
    (each_line (ask_line database) (questions c.args.count) (none_asked sample.reader))
    ≡ Some c.ask_over.new.tally) same
    (asks-through c.in-Ok.index c.args.count sample.reader (none_asked sample.reader)
    (asked_of c.ask_over.new.sample c.ask_over.new.tally) refl c.in-Ok-ask_over.ensures)

pub returns : goal.returns
returns c =
    let sample = c.args.sample.now in
    let same : c.in-Ok.index ≡ sample.desk.database = c.in-Ok.ensures ∙ c.database.ensures.database in
    subst (λ (database : Database). StopsAt (option_map (λ (asked : Asked). asked.tally)
    (each_line (ask_line database) (questions c.args.count) (none_asked sample.reader))) c.in-Err.ending) same
    (asks-stops c.in-Ok.index c.args.count sample.reader (none_asked sample.reader)
    (asked_of c.ask_over.new.sample c.ask_over.new.tally) refl c.in-Err.ending c.in-Err.ensures)
