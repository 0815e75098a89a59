use Rattle.std.proofs.Common.{◌≡◌, rules}
use Rattle.wire_reading.specs.Hearing.{IsHeard}
use Rattle.wire_reading.proofs.Hearings.{front_heard}
use Rattle.wire_reading.proofs.feeding.Feeder.take.Goals as goal

pub invariant_of-self : goal.invariant_of-self
invariant_of-self c = (
  c.self.invariant.0,
  (front_heard (IsHeard c.self.inside.heard) c.self.inside.waiting.items c.pop_front.new.self.items c.pop_front.result
      c.pop_front.ensures.items c.self.invariant.1).1,
)

pub returns-clause-right : goal.returns-clause-right
returns-clause-right c =
    let side : c.args.self.now.heard ≡ c.self.inside.heard = search rules in
    rw side
    (front_heard (IsHeard c.self.inside.heard) c.self.inside.waiting.items c.pop_front.new.self.items c.pop_front.result
    c.pop_front.ensures.items c.self.invariant.1).0
