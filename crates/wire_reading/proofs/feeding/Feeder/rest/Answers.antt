use Rattle.std.proofs.Common.{arith, ◌≡◌, length, rules}
use Rattle.wire_reading.proofs.Settling.{open_bound}
use Rattle.wire_reading.proofs.feeding.Feeder.rest.Goals as goal

pub returns-clause-bound : goal.returns-clause-bound
returns-clause-bound c =
    let bytes = c.self.inside.partial in
    let there : c.len.result ≡ length bytes = search rules in
    omega (arith, there, (open_bound c.self.inside.heard bytes c.self.invariant.0).most)
