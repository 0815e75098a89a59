use Rattle.std.proofs.Common.{◌+◌, arith}
use Rattle.serve_runs.proofs.watches.watch_on.Goals as goal

pub loop-init : goal.loop-init
loop-init g c = (tt, (tt, (0, g.met.C.Task.stays c.args.task.now)))

pub loop-preserved : goal.loop-preserved
loop-preserved g c = (
  tt,
  (
    tt,
    (
      c.loop.invariant.1.1.0 + 1,
      g.met.C.Task.goes_further c.args.task.now c.loop.task _ c.loop.invariant.1.1.0 1 c.loop.invariant.1.1.1
          c.turn-turn.ensures,
    ),
  ),
)

pub returns-then-is_stopped : goal.returns-then-is_stopped
returns-then-is_stopped g c = (
  c.loop.invariant.1.1.0 + 1,
  omega arith,
  g.met.C.Task.goes_further c.args.task.now c.loop.task _ c.loop.invariant.1.1.0 1 c.loop.invariant.1.1.1 c.turn-turn.ensures,
)
