use Rattle.std.proofs.Common.{rules, ◌≡◌, ◌≤◌, ◌∙◌, ◌||◌, ◌∷◌, [], ℕ, List, Option, arith, sym, ap, subst, map}
use Rattle.std.specs.List.{AllByRecursion, AllZip, list_any}
use Rattle.std.proofs.lemmas.List.{with_items_is, places}
use Rattle.link_ports.specs.Told.{AppendsTold}
use Rattle.desk_state.specs.DeskState.{DeskState}
use Rattle.server_hall.specs.StopNews.{unasked}
use Rattle.desk_server.specs.Visit.{Works}
use Rattle.desk_server.specs.Administrators.{VisitsAdministrators, EndsAdministrators, admin_state_of}
use Rattle.serve_runs.specs.Pool.{doors_of, ends_of, left_by, is_lacking, is_alone, is_deserted}
use Rattle.serve_runs.specs.Handlers.{AreStatesOf}
use Rattle.serve_runs.specs.Serving.{ClosesDoors}
use Rattle.serve_runs.specs.parts.Pools.{post_at, handlers_of, door_of, worker_lacked, CountsDoor, SawOnly}
use Rattle.admin_door.proofs.Hanging.{hung-on}
use Rattle.serve_runs.proofs.Closing.{closes_then, closes_again, door_failed, counts_within}
use Rattle.serve_runs.proofs.Pooling.{all_ended, failed_all, none_alone, alone_first}
use Rattle.serve_runs.proofs.serving.open_and_serve.Goals as goal

pub returns-in-Err-open_doors-clause-closed : goal.returns-in-Err-open_doors-clause-closed
returns-in-Err-open_doors-clause-closed g c =
    closes_again g.N.Door.Door.kind (g.N.Net.closed c.args.net.now) (g.N.Net.closed c.open_doors.new.net) (g.N.Net.closed c.close.new.self)
    (g.N.Net.closed c.close_doors.new.net) c.in-Ok.door (map door_of c.open_doors.new.pool.items)
    (c.open_doors.ensures.closed ∙ c.open.ensures.closed) c.in-Ok.ensures.of_kind c.close.ensures.closed c.close_doors.ensures.closed

pub returns-clause-served : goal.returns-clause-served
returns-clause-served g c =
    let opened_is : g.N.Net.closed c.serve-end.new.net ≡ g.N.Net.closed c.args.net.now =
    c.serve-end.ensures.knocks.closed ∙ (c.open_doors.ensures.closed ∙ c.open.ensures.closed) in
    let works_so = subst (λ (published : List DeskState). Works
    (VisitsAdministrators g.N.Door.Link.Link.traffic g.N.Door.Link.Link.marks g.N.Door.Link.Link.faults) (EndsAdministrators unasked c.serve-end.ensures.administers.told)
    g.N.Door.Link.Link.marks g.N.Door.Link.Link.faults c.serve-end.result.0
    (admin_state_of g.D.Disk.faults c.args.keeper.now published [])
    (admin_state_of g.D.Disk.faults c.serve-end.new.keeper c.serve-end.new.publisher c.serve-end.ensures.administers.frames)
    (g.N.Door.Door.given_back c.in-Ok.door) (g.N.Door.Door.given_back c.serve-end.new.door)
    (g.N.Door.Door.faults c.in-Ok.door) (g.N.Door.Door.faults c.serve-end.new.door))
    c.requires.published c.serve-end.ensures.administers.works in
    let works = subst (λ (count : ℕ). Works
    (VisitsAdministrators g.N.Door.Link.Link.traffic g.N.Door.Link.Link.marks g.N.Door.Link.Link.faults) (EndsAdministrators unasked c.serve-end.ensures.administers.told)
    g.N.Door.Link.Link.marks g.N.Door.Link.Link.faults c.serve-end.result.0
    (admin_state_of g.D.Disk.faults c.args.keeper.now (c.args.keeper.now.desk ∷ []) [])
    (admin_state_of g.D.Disk.faults c.serve-end.new.keeper c.serve-end.new.publisher c.serve-end.ensures.administers.frames)
    (g.N.Door.Door.given_back c.in-Ok.door) (g.N.Door.Door.given_back c.serve-end.new.door)
    count (g.N.Door.Door.faults c.serve-end.new.door))
    c.in-Ok.ensures.fresh works_so in
    let no_less : g.N.Dial.faults c.args.net.now ≤ g.N.Dial.faults c.serve-end.new.net =
    omega (arith, c.open.ensures.no_less, c.open_doors.ensures.no_less, c.serve-end.ensures.knocks.no_less) in
    let now = c.serve-end.new.pool in
    let written = with_items_is c.open_doors.new.pool now (search (rules, places)) in
    let saw : AllByRecursion (SawOnly c.serve-end.new.publisher c.serve-end.result.1) now =
    subst (λ list. AllByRecursion (SawOnly c.serve-end.new.publisher c.serve-end.result.1) list) (c.deref.ensures.value ∙ written) c.compare.ensures.pool in
    let state = g.X.ClientHandler.state in
    let visits = g.X.ClientHandler.visits g.N.Door.Link.Link.traffic g.N.Door.Link.Link.marks g.N.Door.Link.Link.faults in
    let ended = all_ended state g.X.ClientHandler.seat_of
    (g.met.X.ClientHandler g.world.𝓛 g.world.𝓜 g.world.𝓡 ((λ s x. x), (λ x. x), (λ x. x), λ x. x)).seat_is visits
    g.N.Door.Link.Link.traffic g.N.Door.Link.Link.marks g.N.Door.Link.Link.faults g.N.Door.Door.given_back
    g.N.Door.Door.faults g.N.Door.Door.kind c.serve-end.new.publisher c.serve-end.result.1 c.args.stations.items c.deref_mut.result.now now
    (rw c.deref_mut.ensures.value c.in_default.ensures.opened) c.serve-end.ensures.workers saw in
    let doors = ap (λ list. map door_of list) written ∙ sym ended.doors in
    record {
      end = c.serve-end.result.0;
      published = c.serve-end.new.publisher;
      given = g.N.Door.Door.given_back c.in-Ok.door;
      door = c.serve-end.new.door;
      is_theirs = c.serve-end.ensures.administers.same_kind ∙ c.in-Ok.ensures.of_kind;
      unused = c.in-Ok.ensures.unused;
      frames = c.serve-end.ensures.administers.frames;
      told = c.serve-end.ensures.administers.told;
      works = works;
      runs = c.serve-end.ensures.administers.runs;
      events = c.serve-end.result.1;
      none_below = c.serve-end.ensures.none_below;
      hung = hung-on c.serve-end.new.hangs c.serve-end.result.1 c.serve-end.ensures.administers.frames c.compare.ensures.hangs
          c.serve-end.ensures.administers.hung;
      pool = ended.pool;
      serves = ended.serves;
      left = subst (λ (list : List g.row.X.Denot). AreStatesOf state list (left_by ended.pool))
          (sym (c.close_doors-2.ensures.handlers ∙ ap (λ list. handlers_of list) written)) ended.left;
      doors = closes_then (g.N.Net.closed c.args.net.now) (g.N.Net.closed c.close-2.new.self) (g.N.Net.closed c.close_doors-2.new.net)
          (c.serve-end.new.door ∷ []) (doors_of ended.pool)
          (subst (λ (told : Option (List g.row.N-Door.Denot)). AppendsTold told c.serve-end.new.door (g.N.Net.closed c.close-2.new.self))
          opened_is c.close-2.ensures.closed)
          (subst (λ (list : List g.row.N-Door.Denot). ClosesDoors (g.N.Net.closed c.close-2.new.self) list
          (g.N.Net.closed c.close_doors-2.new.net)) doors c.close_doors-2.ensures.closed);
      memory =
          c.lacks_memory.ensures
          ∙ ap (λ lacked. is_lacking c.serve-end.result.0 || lacked)
          (c.lacked_memory-lacked.ensures
          ∙ (ap (λ list. list_any worker_lacked list) (c.deref-2.ensures.value ∙ written) ∙ sym ended.lacks));
      deserted = alone_first _ (is_alone c.serve-end.result.0) (is_deserted (ends_of ended.pool)) c.is_alone.ensures
          (none_alone g.X.ClientHandler.seat_of visits g.N.Door.Link.Link.traffic g.N.Door.Link.Link.marks g.N.Door.Link.Link.faults g.N.Door.Door.given_back
          g.N.Door.Door.faults g.N.Door.Door.kind c.serve-end.new.publisher c.serve-end.result.1 (g.N.Dial.faults c.args.net.now) (g.N.Dial.faults c.close_doors-2.new.net)
          (map (post_at state) c.args.stations.items) ended.pool ended.serves);
      failed = (
        door_failed c.serve-end.result.0 (g.N.Door.Door.faults c.serve-end.new.door) (g.N.Dial.faults c.args.net.now)
            (g.N.Dial.faults c.serve-end.new.net) (g.N.Dial.faults c.close-2.new.self) (g.N.Dial.faults c.close_doors-2.new.net)
            no_less works.counted c.close-2.ensures.count c.close_doors-2.ensures.no_less,
        failed_all g.X.ClientHandler.seat_of visits g.N.Door.Link.Link.traffic g.N.Door.Link.Link.marks g.N.Door.Link.Link.faults g.N.Door.Door.given_back
            g.N.Door.Door.faults g.N.Door.Door.kind c.serve-end.new.publisher c.serve-end.result.1 (g.N.Dial.faults c.args.net.now) (g.N.Dial.faults c.close_doors-2.new.net)
            (map (post_at state) c.args.stations.items) ended.pool ended.serves
            (counts_within g.N.Door.Door.faults (doors_of ended.pool) (g.N.Dial.faults c.args.net.now) (g.N.Dial.faults c.close-2.new.self)
            (g.N.Dial.faults c.close_doors-2.new.net) (g.N.Dial.faults c.close_doors-2.new.net)
            (omega (arith, no_less, c.close-2.ensures.bound.0)) (omega arith)
            (subst (λ (list : List g.row.N-Door.Denot). AllByRecursion (λ door. CountsDoor (g.N.Door.Door.faults door)
            (g.N.Dial.faults c.close-2.new.self) (g.N.Dial.faults c.close_doors-2.new.net)) list) doors c.close_doors-2.ensures.counted)),
      );
    }
