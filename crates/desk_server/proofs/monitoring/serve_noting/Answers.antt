use Rattle.std.proofs.Common.{rules, List, [], Option, Some, refl, sym, ap, subst}
use Rattle.check_monitor.specs.Monitor.{RecorderState}
use Rattle.client_door.specs.Recording.{Recording, with_none_waiting}
use Rattle.client_door.specs.Serving.{Serves, recorded_side}
use Rattle.client_door.specs.declared.judgements.Judgement.{Judgement}
use Rattle.desk_server.specs.Monitoring.{RecordsEach, HasRecorded}
use Rattle.desk_server.proofs.monitoring.serve_noting.Goals as goal

pub returns : goal.returns
returns g c =
    let none : HasRecorded c.new-checks.result.recorder.now c.new-checks.result.noted.items
    c.new-checks.result.recorder.now (Some (with_none_waiting [])) = (
      [],
      ap (λ (list : List Judgement). Some (record { recorded = []; waiting = list })) (sym c.new-checks.ensures.noted),
      refl,
    ) in
    let told = c.recorded_loop-ended.ensures c.new-checks.result (Some (with_none_waiting [])) (refl, none) in
    let (recorded, is, each) = told.1.1 in
    record {
      judged = recorded;
      waiting = c.recorded_loop-ended.new.recorder.noted.items;
      serves = subst (λ (after : Option Recording). Serves c.recorded_loop-ended.result
          (recorded_side c.args.seat.now (g.A.Hall.tally c.args.hall.now) (g.A.Hall.calls c.args.hall.now)
          (g.L.Link.traffic c.args.link.now)
          (g.L.Link.marks c.args.link.now) (g.L.Link.faults c.args.link.now) (Some (with_none_waiting [])))
          (recorded_side c.recorded_loop-ended.new.seat (g.A.Hall.tally c.recorded_loop-ended.new.hall)
          (g.A.Hall.calls c.recorded_loop-ended.new.hall) (g.L.Link.traffic c.recorded_loop-ended.new.link)
          (g.L.Link.marks c.recorded_loop-ended.new.link) (g.L.Link.faults c.recorded_loop-ended.new.link) after)) is
          told.2;
      records = subst (λ (state : RecorderState). RecordsEach c.args.recorder.now recorded state) (search rules)
          (subst (λ (state : RecorderState). RecordsEach state recorded c.recorded_loop-ended.new.recorder.recorder.now)
          c.new-checks.ensures.recorder each);
    }
