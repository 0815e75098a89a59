use denote.Param.Send.{cell_keyless, sendable}
use Rattle.std.proofs.Common.{rules}
use Rattle.serve_runs.specs.parts.Pools.{HasWorked}
use Rattle.serve_runs.proofs.Pooling.{zip_each, went}
use Rattle.serve_runs.proofs.Sent.{worker_row_send, roll_lock_sync, questions_sync, muster_sync, alarm_sync}
use Rattle.serve_runs.proofs.serving.serve.Goals as goal

pub beside-end-requires-send-K : goal.beside-end-requires-send-K
beside-end-requires-send-K g c κs within = search (sendable, worker_row_send) depth 20

-- What the closure captures, in its order: the host, the allocator, the registry, the questions, the muster, the alarm, the gate, the
-- notes. `search` finds none of it: the closure's row is a parameter's, which shows its values alone.
pub beside-end-requires-sync-F : goal.beside-end-requires-sync-F
beside-end-requires-sync-F g c κs within = record {
  shared = λ x b o κ. (
    (
      (λ q. tt, c.type_bounds.sync-R.shared _ _ _ _),
      (
        search (cell_keyless),
        (
          (λ q. tt, (roll_lock_sync _ _ _ g.J.Naming _ c.type_bounds.send-E-Link-End c.type_bounds.send-J).shared _ _ _ _),
          (
            (λ q. tt, questions_sync.shared _ _ _ _),
            (
              (λ q. tt, muster_sync.shared _ x.4.ref_ptr.0 x.4.ref_ptr.1 _),
              (
                (λ q. tt, alarm_sync.shared _ x.5.ref_ptr.0 x.5.ref_ptr.1 _),
                (
                  (λ q. tt, c.type_bounds.sync-G.shared _ _ _ _),
                  ((λ q. tt, c.type_bounds.sync-T.shared _ _ _ _), tt),
                ),
              ),
            ),
          ),
        ),
      ),
    ),
    λ q. tt,
  );
}

pub returns-clause-workers : goal.returns-clause-workers
returns-clause-workers g c =
    zip_each (HasWorked g.X.ClientHandler.state (g.X.ClientHandler.visits g.E.Link.Link.traffic g.E.Link.Link.marks g.E.Link.Link.faults)
    g.E.Link.Link.traffic g.E.Link.Link.marks g.E.Link.Link.faults g.E.Door.given_back g.E.Door.faults g.E.Door.kind) c.args.pool.now c.beside-end.new.workers (search rules)
    (λ i d low. let at = (c.beside-end.ensures.workers.changes i d low).1 in
    went (HasWorked g.X.ClientHandler.state (g.X.ClientHandler.visits g.E.Link.Link.traffic g.E.Link.Link.marks g.E.Link.Link.faults)
    g.E.Link.Link.traffic g.E.Link.Link.marks g.E.Link.Link.faults g.E.Door.given_back g.E.Door.faults g.E.Door.kind) _ _ at.argument.now at.after_call.now at.argument_is at.left at.call)
