use Rattle.std.proofs.Common.{◌≡◌}
use Rattle.serve_runs.specs.parts.Administering.{Knocks}
use Rattle.serve_runs.proofs.doors.knock.Given as goal

abbrev pub invariant-loop : goal.invariant-loop
invariant-loop g l =
    Knocks g.N.Dial.faults g.N.Net.closed l.fn.net l.net
