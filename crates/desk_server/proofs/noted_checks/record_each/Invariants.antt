use Rattle.std.proofs.Common.{take}
use Rattle.desk_server.specs.Monitoring.{RecordsEach}
use Rattle.desk_server.proofs.noted_checks.record_each.Given as goal

-- the checks so far were recorded
abbrev pub invariant-loop-judgement : goal.invariant-loop-judgement
invariant-loop-judgement g l = RecordsEach l.fn.recorder (take l.judgement-index l.judged) l.recorder
