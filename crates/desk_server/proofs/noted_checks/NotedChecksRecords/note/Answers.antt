use Rattle.std.proofs.Common.{◌∙◌, List, [], ◌∷◌, ◌++◌, refl, sym, ap, subst}
use Rattle.bucket_eval.specs.declared.answers.Cause.{Cause}
use Rattle.client_door.specs.declared.judgements.Judgement.{Judgement}
use Rattle.desk_server.specs.Monitoring.{HasRecorded}
use Rattle.desk_server.proofs.Recordings.{notes_next}
use Rattle.desk_server.proofs.noted_checks.NotedChecksRecords.note.Goals as goal

pub returns-in-Ok : goal.returns-in-Ok
returns-in-Ok g c cause is since before fits =
    let told = notes_next since.recorder.now c.args.self.now.recorder.now c.args.self.now.noted.items
    c.push.new.noted.items (record { question = c.args.question.now; decision = c.args.decision; cause = cause })
    before (c.in-Ok.ensures.pushed ∙ ap (λ (one : Cause). c.args.self.now.noted.items
    ++ record { question = c.args.question.now; decision = c.args.decision; cause = one } ∷ []) is) fits.1 in
    (told.0, (fits.0, told.1), told.2)

pub returns-in-Err : goal.returns-in-Err
returns-in-Err g c since before fits = (
  before,
  (
    fits.0,
    subst (λ (list : List Judgement). HasRecorded since.recorder.now list c.args.self.now.recorder.now before)
        (sym c.in-Err.ensures.kept) fits.1,
  ),
  refl,
)
