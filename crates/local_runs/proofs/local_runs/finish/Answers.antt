use Rattle.std.proofs.Common.{subst, sym, refl}
use Rattle.local_runs.specs.parts.Finish.{Finishes}
use Rattle.run_endings.specs.declared.endings.Ending.TheVariants.{Memory}
use Rattle.local_runs.proofs.Finishing.{Finishes-memory}
use Rattle.local_runs.proofs.local_runs.finish.Goals as goal

pub returns-in-Memory : goal.returns-in-Memory
returns-in-Memory g c =
    subst (λ ending. Finishes (g.K.Sink.taken c.args.sink.now) (g.K.Sink.taken c.flush.new.sink)
    (g.K.Sink.faults c.args.sink.now) (g.K.Sink.faults c.flush.new.sink) c.args.script.now.answers ending Memory)
    (sym c.in-Memory.is)
    (refl, Finishes-memory c.flush.result _ _ c.args.script.now c.flush.new.self _ _ c.flush.ensures.flush c.flush.ensures.count)
