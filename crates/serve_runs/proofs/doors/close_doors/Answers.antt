use Rattle.std.proofs.Common.{rules, ◌∙◌, ◌++◌, ◌∷◌, [], map, length, sym, ap, subst, arith, map-id}
use Rattle.std.proofs.lemmas.Iterator.Adapters.{YieldsList-from_vec}
use Rattle.std.proofs.lemmas.Iterator.Consumers.{YieldsList-end}
use Rattle.std.specs.List.{AllByRecursion}
use Rattle.std.specs.Option.{option_to_list}
use Rattle.serve_runs.specs.Serving.{ClosesDoors}
use Rattle.serve_runs.specs.parts.Pools.{handler_of, door_of, CountsDoor}
use Rattle.serve_runs.proofs.Closing.{closes_then, counts_more}
use Rattle.serve_runs.proofs.Pooling.{doors_push, handlers_push}
use Rattle.serve_runs.proofs.doors.close_doors.Goals as goal

pub loop-worker-preserved : goal.loop-worker-preserved
loop-worker-preserved g c =
    let left = ap length c.in-Some.ensures.steps.0 in
    let doors = doors_push c.loop-worker.yielded c.in-Some.worker in
    record {
      no_less = omega (arith, c.loop-worker.invariant.no_less, c.close_one.ensures.no_less);
      closed = subst (λ list. ClosesDoors (g.N.Net.closed c.args.net.now) list (g.N.Net.closed c.close_one.new.net)) (sym doors)
          (closes_then (g.N.Net.closed c.args.net.now) (g.N.Net.closed c.loop-worker.net) (g.N.Net.closed c.close_one.new.net)
          (map door_of c.loop-worker.yielded) (door_of c.in-Some.worker ∷ []) c.loop-worker.invariant.closed c.close_one.ensures.closed);
      counted = subst (λ list. AllByRecursion (λ door. CountsDoor (g.N.Door.Door.faults door) (g.N.Dial.faults c.args.net.now)
          (g.N.Dial.faults c.close_one.new.net)) list) (sym doors)
          (counts_more g.N.Door.Door.faults (map door_of c.loop-worker.yielded) (door_of c.in-Some.worker) (g.N.Dial.faults c.args.net.now)
          (g.N.Dial.faults c.loop-worker.net) (g.N.Dial.faults c.close_one.new.net) c.loop-worker.invariant.no_less
          c.close_one.ensures.no_less c.loop-worker.invariant.counted c.close_one.ensures.counted);
      handlers =
          c.close_one.ensures.items
          ∙ (ap (λ list. list ++ option_to_list (handler_of c.in-Some.worker)) c.loop-worker.invariant.handlers ∙ sym (handlers_push c.loop-worker.yielded c.in-Some.worker));
      room = omega (arith, left, c.loop-worker.invariant.room, c.close_one.ensures.len, c.close_one.ensures.capacity);
    }

pub returns-clause-counted : goal.returns-clause-counted
returns-clause-counted g c =
    let end = YieldsList-end
    (YieldsList-from_vec {s = c.into_iter-worker-iterator.result} c.args.pool.items (search rules) (search rules))
    c.loop-worker.yielded c.loop-worker.worker-iterator c.loop-worker.yielded_by c.next.result c.next.new.self c.in-None.is
    c.next.ensures.steps in
    subst (λ list. AllByRecursion (λ door. CountsDoor (g.N.Door.Door.faults door) (g.N.Dial.faults c.args.net.now)
    (g.N.Dial.faults c.loop-worker.net)) (map door_of list)) (sym (map-id c.loop-worker.yielded) ∙ end.0) c.loop-worker.invariant.counted
