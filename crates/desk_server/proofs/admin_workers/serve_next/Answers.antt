use Rattle.std.proofs.Common.{List, ◌∙◌, ◌++◌, []}
use Rattle.server_hall.specs.Tally.{no_calls}
use Rattle.admin_door.specs.Serving.{Exchange, talk_of}
use Rattle.admin_door.specs.Running.{RunsOver}
use Rattle.admin_door.specs.Hanging.{AreHung}
use Rattle.admin_door.proofs.Running.{runs-then}
use Rattle.admin_door.proofs.Hanging.{with-hung, hung-then}
use Rattle.desk_server.specs.Visit.{Visit, GoesOnTold}
use Rattle.desk_server.specs.Administrators.{VisitsAdministrators, EndsAdministrators, admin_state_of, side_in}
use Rattle.desk_server.proofs.Visits.{goes_on, stops_as, refused, goes_told, ends_admin_state, behind_counts, refused_admin_state}
use Rattle.desk_server.proofs.Visits.{visit_frames}
use Rattle.desk_server.proofs.admin_workers.serve_next.Goals as goal

pub returns-in-Err-clause-worked : goal.returns-in-Err-clause-worked
returns-in-Err-clause-worked g c first start given count told (frames, so_far, runs, hung) = (
  frames,
  refused (VisitsAdministrators g.L.Link.traffic g.L.Link.marks g.L.Link.faults) g.L.Link.marks g.L.Link.faults
      start (admin_state_of g.D.Disk.faults c.args.keeper.now c.args.publisher.now frames)
      given (g.E.Door.given_back c.args.door.now) (g.E.Door.given_back c.accept.new.door)
      count (g.E.Door.faults c.args.door.now) (g.E.Door.faults c.accept.new.door) c.in-Err.end
      (GoesOnTold told c.args.news.now) (EndsAdministrators told c.args.news.now)
      so_far (refused_admin_state told c.args.news.now c.in-Err.end c.in-Err.ensures.count.0) c.accept.ensures.kept
      c.in-Err.ensures.count,
  runs,
  hung,
)

pub returns-in-Some-clause-worked : goal.returns-in-Some-clause-worked
returns-in-Some-clause-worked g c first start given count told (frames, so_far, runs, hung) =
    let visit : Visit g.row.L.Denot =
    record { accepted = c.in-Ok.link; returned = c.serve_admin-ended.new.link; ended = c.serve_admin-ended.result } in
    let (tally, served, adds) = c.serve_admin-ended.ensures.served in
    let admin_state = admin_state_of g.D.Disk.faults c.args.keeper.now c.args.publisher.now [] in
    let admin_state_now =
    admin_state_of g.D.Disk.faults c.serve_admin-ended.new.keeper c.serve_admin-ended.new.publisher [] in
    let talk = talk_of (side_in admin_state no_calls) (g.L.Link.traffic c.in-Ok.link) (g.L.Link.marks c.in-Ok.link)
    (g.L.Link.faults c.in-Ok.link) in
    let talk_now = talk_of (side_in admin_state_now tally) (g.L.Link.traffic c.serve_admin-ended.new.link)
    (g.L.Link.marks c.serve_admin-ended.new.link)
    (g.L.Link.faults c.serve_admin-ended.new.link) in
    let Runs : List Exchange → Type 0 =
    RunsOver g.D.Disk.state g.D.Disk.moment g.D.Disk.left_since c.args.keeper.now c.serve_admin-ended.new.keeper in
    let (more, keeps, behind) = visit_frames talk talk_now c.serve_admin-ended.result
    (λ exchanges. Runs exchanges × AreHung c.serve_admin-ended.new.hangs exchanges)
    (with-hung talk talk_now c.serve_admin-ended.result Runs c.args.hangs.now c.serve_admin-ended.new.hangs served
    c.serve_admin-ended.ensures.rising c.serve_admin-ended.ensures.hangs) in (
      frames ++ more,
      stops_as (VisitsAdministrators g.L.Link.traffic g.L.Link.marks g.L.Link.faults) g.L.Link.marks g.L.Link.faults
          start (admin_state_of g.D.Disk.faults c.args.keeper.now c.args.publisher.now frames)
          (admin_state_of g.D.Disk.faults c.serve_admin-ended.new.keeper c.serve_admin-ended.new.publisher (frames ++ more))
          given (g.E.Door.given_back c.args.door.now) (g.E.Door.given_back c.accept.new.door)
          (g.E.Door.given_back c.give_back.new.self)
          count (g.E.Door.faults c.args.door.now) (g.E.Door.faults c.give_back.new.self)
          visit (GoesOnTold told c.args.news.now) c.in-Some.end (EndsAdministrators told c.end_behind.new.news)
          so_far (c.in-Ok.ensures.unmarked, c.in-Ok.ensures.fresh) (c.in-Ok.ensures.silent, (tally, behind frames))
          (ends_admin_state told c.args.news.now c.end_behind.new.news c.in-Some.end visit c.in-Some.ensures.over)
          (behind_counts c.in-Some.end c.serve_admin-ended.result c.args.news.now c.end_behind.new.news
          c.in-Some.ensures.over)
          c.accept.ensures.kept c.give_back.ensures.given
          (c.give_back.ensures.count ∙ c.in-Ok.ensures.count),
      runs-then g.D.Disk.state g.D.Disk.moment g.D.Disk.left_since first c.args.keeper.now
          c.serve_admin-ended.new.keeper frames more runs keeps.0,
      hung-then c.args.hangs.now c.serve_admin-ended.new.hangs frames more c.serve_admin-ended.ensures.hangs.begins hung
          keeps.1,
    )

pub returns-clause-worked : goal.returns-clause-worked
returns-clause-worked g c first start given count told (frames, so_far, runs, hung) =
    let visit : Visit g.row.L.Denot =
    record { accepted = c.in-Ok.link; returned = c.serve_admin-ended.new.link; ended = c.serve_admin-ended.result } in
    let (tally, served, adds) = c.serve_admin-ended.ensures.served in
    let admin_state = admin_state_of g.D.Disk.faults c.args.keeper.now c.args.publisher.now [] in
    let admin_state_now =
    admin_state_of g.D.Disk.faults c.serve_admin-ended.new.keeper c.serve_admin-ended.new.publisher [] in
    let talk = talk_of (side_in admin_state no_calls) (g.L.Link.traffic c.in-Ok.link) (g.L.Link.marks c.in-Ok.link)
    (g.L.Link.faults c.in-Ok.link) in
    let talk_now = talk_of (side_in admin_state_now tally) (g.L.Link.traffic c.serve_admin-ended.new.link)
    (g.L.Link.marks c.serve_admin-ended.new.link)
    (g.L.Link.faults c.serve_admin-ended.new.link) in
    let Runs : List Exchange → Type 0 =
    RunsOver g.D.Disk.state g.D.Disk.moment g.D.Disk.left_since c.args.keeper.now c.serve_admin-ended.new.keeper in
    let (more, keeps, behind) = visit_frames talk talk_now c.serve_admin-ended.result
    (λ exchanges. Runs exchanges × AreHung c.serve_admin-ended.new.hangs exchanges)
    (with-hung talk talk_now c.serve_admin-ended.result Runs c.args.hangs.now c.serve_admin-ended.new.hangs served
    c.serve_admin-ended.ensures.rising c.serve_admin-ended.ensures.hangs) in (
      frames ++ more,
      goes_on (VisitsAdministrators g.L.Link.traffic g.L.Link.marks g.L.Link.faults) g.L.Link.marks g.L.Link.faults
          start (admin_state_of g.D.Disk.faults c.args.keeper.now c.args.publisher.now frames)
          (admin_state_of g.D.Disk.faults c.serve_admin-ended.new.keeper c.serve_admin-ended.new.publisher (frames ++ more))
          given (g.E.Door.given_back c.args.door.now) (g.E.Door.given_back c.accept.new.door)
          (g.E.Door.given_back c.give_back.new.self)
          count (g.E.Door.faults c.args.door.now) (g.E.Door.faults c.give_back.new.self)
          visit (GoesOnTold told c.args.news.now) (GoesOnTold told c.end_behind.new.news)
          so_far (c.in-Ok.ensures.unmarked, c.in-Ok.ensures.fresh) (c.in-Ok.ensures.silent, (tally, behind frames))
          (goes_told told c.args.news.now c.end_behind.new.news visit c.in-None.ensures.on)
          c.accept.ensures.kept c.give_back.ensures.given
          (c.give_back.ensures.count ∙ c.in-Ok.ensures.count),
      runs-then g.D.Disk.state g.D.Disk.moment g.D.Disk.left_since first c.args.keeper.now
          c.serve_admin-ended.new.keeper frames more runs keeps.0,
      hung-then c.args.hangs.now c.serve_admin-ended.new.hangs frames more c.serve_admin-ended.ensures.hangs.begins hung
          keeps.1,
    )
