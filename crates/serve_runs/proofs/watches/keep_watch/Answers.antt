use Rattle.serve_runs.proofs.watches.keep_watch.Goals as goal

pub returns-then-not-begin-clause-task : goal.returns-then-not-begin-clause-task
returns-then-not-begin-clause-task g c = (0, g.met.C.Task.stays c.args.task.now)

pub returns-clause-task : goal.returns-clause-task
returns-clause-task g c = (c.watch_on.ensures.0, c.watch_on.ensures.2)
