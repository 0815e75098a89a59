use Rattle.std.proofs.Common.{◌∙◌}
use Rattle.desk_server.specs.Visit.{Visit, GoesOnTold, EndsWorking}
use Rattle.desk_server.specs.Monitored.{post_of, VisitsWatched}
use Rattle.desk_server.proofs.Visits.{goes_on, stops, refused, goes_told, stops_told, refused_told}
use Rattle.desk_server.proofs.monitored_workers.serve_next_monitored.Goals as goal

pub returns-in-Err-clause-worked : goal.returns-in-Err-clause-worked
returns-in-Err-clause-worked g c told start given count so_far =
    refused (VisitsWatched g.L.Link.traffic g.L.Link.marks g.L.Link.faults) g.L.Link.marks g.L.Link.faults
    start (post_of c.args.seat.now c.args.recorder.now) given (g.D.Door.given_back c.args.door.now)
    (g.D.Door.given_back c.accept.new.door)
    count (g.D.Door.faults c.args.door.now) (g.D.Door.faults c.accept.new.door) c.in-Err.end
    (GoesOnTold told c.args.news.now) (EndsWorking told c.args.news.now) so_far
    (refused_told told c.args.news.now c.in-Err.end c.in-Err.ensures.count.0) c.accept.ensures.kept
    c.in-Err.ensures.count

pub returns-then-is_over-clause-worked : goal.returns-then-is_over-clause-worked
returns-then-is_over-clause-worked g c told start given count so_far =
    let visit : Visit g.row.L.Denot =
    record {
      accepted = c.in-Ok.link;
      returned = c.serve_monitored-ended.new.link;
      ended = c.serve_monitored-ended.result;
    } in
    stops (VisitsWatched g.L.Link.traffic g.L.Link.marks g.L.Link.faults) g.L.Link.marks g.L.Link.faults
    start (post_of c.args.seat.now c.args.recorder.now)
    (post_of c.serve_monitored-ended.new.seat c.serve_monitored-ended.new.recorder)
    given (g.D.Door.given_back c.args.door.now) (g.D.Door.given_back c.accept.new.door)
    (g.D.Door.given_back c.give_back.new.self)
    count (g.D.Door.faults c.args.door.now) (g.D.Door.faults c.give_back.new.self)
    visit (GoesOnTold told c.args.news.now) (EndsWorking told c.is_over.new.news)
    so_far (c.in-Ok.ensures.unmarked, c.in-Ok.ensures.fresh)
    (c.in-Ok.ensures.silent, c.serve_monitored-ended.ensures.served)
    (stops_told told c.args.news.now c.is_over.new.news visit c.if-is_over.ensures.over)
    c.accept.ensures.kept c.give_back.ensures.given
    (c.give_back.ensures.count ∙ c.in-Ok.ensures.count)

pub returns-clause-worked : goal.returns-clause-worked
returns-clause-worked g c told start given count so_far =
    let visit : Visit g.row.L.Denot =
    record {
      accepted = c.in-Ok.link;
      returned = c.serve_monitored-ended.new.link;
      ended = c.serve_monitored-ended.result;
    } in
    goes_on (VisitsWatched g.L.Link.traffic g.L.Link.marks g.L.Link.faults) g.L.Link.marks g.L.Link.faults
    start (post_of c.args.seat.now c.args.recorder.now)
    (post_of c.serve_monitored-ended.new.seat c.serve_monitored-ended.new.recorder)
    given (g.D.Door.given_back c.args.door.now) (g.D.Door.given_back c.accept.new.door)
    (g.D.Door.given_back c.give_back.new.self)
    count (g.D.Door.faults c.args.door.now) (g.D.Door.faults c.give_back.new.self)
    visit (GoesOnTold told c.args.news.now) (GoesOnTold told c.is_over.new.news)
    so_far (c.in-Ok.ensures.unmarked, c.in-Ok.ensures.fresh)
    (c.in-Ok.ensures.silent, c.serve_monitored-ended.ensures.served)
    (goes_told told c.args.news.now c.is_over.new.news visit c.if-is_over.ensures.on)
    c.accept.ensures.kept c.give_back.ensures.given
    (c.give_back.ensures.count ∙ c.in-Ok.ensures.count)
