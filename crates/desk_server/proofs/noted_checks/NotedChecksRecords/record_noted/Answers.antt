use Rattle.std.proofs.Common.{rules, ◌≡◌, List, subst}
use Rattle.client_door.specs.declared.judgements.Judgement.{Judgement}
use Rattle.desk_server.specs.Monitoring.{RecordsEach}
use Rattle.desk_server.proofs.Recordings.{notes_recorded}
use Rattle.desk_server.proofs.noted_checks.NotedChecksRecords.record_noted.Goals as goal

pub returns : goal.returns
returns g c since before fits =
    let is : c.deref.result.now ≡ c.args.self.now.noted.items = search rules in
    let each : RecordsEach c.args.self.now.recorder.now c.args.self.now.noted.items c.record_each.new.recorder =
    subst (λ (list : List Judgement). RecordsEach c.args.self.now.recorder.now list c.record_each.new.recorder) is
    c.record_each.ensures in
    let told = notes_recorded since.recorder.now c.args.self.now.recorder.now c.record_each.new.recorder
    c.args.self.now.noted.items c.clear.new.self.items before (search rules) each fits.1 in
    (told.0, (fits.0, told.1), told.2)
