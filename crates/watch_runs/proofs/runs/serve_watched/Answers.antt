use Rattle.std.proofs.Common.{rules, ◌≡◌, ◌∙◌, List, Option, ap}
use Rattle.live_desk.specs.Seat.{new_seats}
use Rattle.run_endings.specs.Outside.{disk_seen, sink_seen}
use Rattle.desk_server.specs.Monitored.{Post, post_of, VisitsWatched}
use Rattle.serve_runs.specs.Handlers.{states_of}
use Rattle.serve_runs.specs.Run.{RunsServe}
use Rattle.watch_runs.proofs.Recorders.{left_some, left_none, same_recorders, on_some, journals_given}
use Rattle.watch_runs.proofs.runs.serve_watched.Goals as goal

pub returns-in-Some-clause-runs : goal.returns-in-Some-clause-runs
returns-in-Some-clause-runs g c =
    let runs = c.run_service-run.ensures.runs in
    left_some
    (λ (left : Option (List Post)). RunsServe (λ (post : Post). post.seat)
    (VisitsWatched g.N.Door.Link.Link.traffic g.N.Door.Link.Link.marks g.N.Door.Link.Link.faults)
    g.N.Door.Link.Link.traffic g.N.Door.Link.Link.marks g.N.Door.Link.Link.faults g.N.Door.Door.given_back g.N.Door.Door.faults
    g.N.Door.Door.kind (states_of post_of (new_seats c.args.workers) c.args.recorders.items) left c.run_service-run.result.ending
    (disk_seen g.D.Disk.state g.D.Disk.moment g.D.Disk.left_since g.D.Disk.faults c.args.disk.now)
    (disk_seen g.D.Disk.state g.D.Disk.moment g.D.Disk.left_since g.D.Disk.faults c.run_service-run.new.disk)
    (g.N.Dial.faults c.args.net.now) (g.N.Dial.faults c.run_service-run.new.net)
    (g.N.Net.closed c.args.net.now) (g.N.Net.closed c.run_service-run.new.net))
    (λ now. now.items) c.run_service-run.result.handlers c.in-Some.recorders runs.0 (search rules) runs.2 runs.1

pub returns-in-Some-clause-same : goal.returns-in-Some-clause-same
returns-in-Some-clause-same g c =
    let (posts, runs, are) = returns-in-Some-clause-runs g c in
    same_recorders g.N.Door.Link.Link.traffic g.N.Door.Link.Link.marks g.N.Door.Link.Link.faults g.N.Door.Door.given_back
    g.N.Door.Door.faults g.N.Door.Door.kind c.args.workers c.args.recorders.items c.in-Some.recorders.items posts
    c.run_service-run.result.ending
    (disk_seen g.D.Disk.state g.D.Disk.moment g.D.Disk.left_since g.D.Disk.faults c.args.disk.now)
    (disk_seen g.D.Disk.state g.D.Disk.moment g.D.Disk.left_since g.D.Disk.faults c.run_service-run.new.disk)
    (g.N.Dial.faults c.args.net.now) (g.N.Dial.faults c.run_service-run.new.net)
    (g.N.Net.closed c.args.net.now) (g.N.Net.closed c.run_service-run.new.net) c.requires.recorders runs are

pub returns-clause-refuses : goal.returns-clause-refuses
returns-clause-refuses g c =
    let runs = c.run_service-run.ensures.runs in
    left_none
    (λ (left : Option (List Post)). RunsServe (λ (post : Post). post.seat)
    (VisitsWatched g.N.Door.Link.Link.traffic g.N.Door.Link.Link.marks g.N.Door.Link.Link.faults)
    g.N.Door.Link.Link.traffic g.N.Door.Link.Link.marks g.N.Door.Link.Link.faults g.N.Door.Door.given_back g.N.Door.Door.faults
    g.N.Door.Door.kind (states_of post_of (new_seats c.args.workers) c.args.recorders.items) left c.run_service-run.result.ending
    (disk_seen g.D.Disk.state g.D.Disk.moment g.D.Disk.left_since g.D.Disk.faults c.args.disk.now)
    (disk_seen g.D.Disk.state g.D.Disk.moment g.D.Disk.left_since g.D.Disk.faults c.run_service-run.new.disk)
    (g.N.Dial.faults c.args.net.now) (g.N.Dial.faults c.run_service-run.new.net)
    (g.N.Net.closed c.args.net.now) (g.N.Net.closed c.run_service-run.new.net))
    (λ now. now.items) c.run_service-run.result.handlers runs.0 (search rules) runs.2 runs.1

pub returns-in-Some-clause-journal : goal.returns-in-Some-clause-journal
returns-in-Some-clause-journal g c =
    let goes = on_some c.run_service-run.result.handlers c.in-Some.recorders (search rules) c.run_service-run.ensures.task in
    let name = goes.1.0 ∙ c.new-journal.ensures.same in
    let final : c.run_service-run.new.task.sink.now ≡ c.sink-1.given.0 = search (rules, name) in (
      goes.0,
      journals_given goes.0 c.args.reader c.new-journal.result.reader c.run_service-run.new.task.reader c.into_parts-reader.result.0
          c.new-journal.result.writing c.run_service-run.new.task.writing c.into_parts-reader.result.1 _ _ _ _
          c.new-journal.ensures.reader c.new-journal.ensures.writing
          (ap (λ k. sink_seen g.K.Sink.taken g.K.Sink.faults k) c.new-journal.ensures.sink)
          c.into_parts-reader.ensures.reader c.into_parts-reader.ensures.writing
          (ap (λ k. sink_seen g.K.Sink.taken g.K.Sink.faults k) final) goes.1.1,
    )
