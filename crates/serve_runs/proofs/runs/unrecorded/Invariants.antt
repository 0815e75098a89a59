use Rattle.std.proofs.Common.{◌≡◌, vec_len}
use Rattle.serve_runs.proofs.runs.unrecorded.Given as goal

abbrev pub invariant-loop : goal.invariant-loop
invariant-loop l = vec_len l.handlers ≡ l.counter
