use Rattle.std.proofs.Common.{rules, arith, ◌≡◌, ◌≤◌, length, ap}
use Rattle.wire_reading.specs.Frame.{length_of}
use Rattle.wire_reading.proofs.Settling.{open_bound}
use Rattle.wire_reading.proofs.feeding.Feeder.wanted.Goals as goal

pub overflow_sub-result-2 : goal.overflow_sub-result-2
overflow_sub-result-2 c =
    let bytes = c.self.inside.partial in
    let size : c.length_of.result ≡ length_of bytes = search rules in
    let there : c.len-there.result ≡ length bytes = search rules in
    let long : 4 ≤ length bytes = omega (arith, there) in
    let less = (open_bound c.self.inside.heard bytes c.self.invariant.0).less long in
    omega (arith, size, there, less)

pub returns-clause-some : goal.returns-clause-some
returns-clause-some c =
    let bytes = c.self.inside.partial in
    let size : c.length_of.result ≡ length_of bytes = search rules in
    let there : c.len-there.result ≡ length bytes = search rules in
    let long : 4 ≤ length bytes = omega (arith, there) in
    let less = (open_bound c.self.inside.heard bytes c.self.invariant.0).less long in
    omega (arith, size, there, less)

pub returns-clause-whole : goal.returns-clause-whole
returns-clause-whole c long =
    let bytes = c.self.inside.partial in
    let same : c.args.self.now.partial ≡ bytes = search rules in
    let size : c.length_of.result ≡ length_of bytes = search rules in
    let there : c.len-there.result ≡ length bytes = search rules in
    let enough : 4 ≤ length bytes = omega (arith, there) in
    let less = (open_bound c.self.inside.heard bytes c.self.invariant.0).less enough in
    let told : length_of c.args.self.now.partial ≡ length_of bytes = ap length_of same in
    omega (arith, size, there, less, told, ap length same)
