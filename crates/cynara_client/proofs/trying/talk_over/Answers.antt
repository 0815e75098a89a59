use Rattle.std.proofs.Common.{◌∙◌}
use Rattle.client_connection.specs.Reading.{IsTrouble}
use Rattle.client_connection.specs.Exchange.{Exchanges}
use Rattle.cynara_client.specs.parts.Talking.{tried}
use Rattle.cynara_client.proofs.Hearing.{only_heard}
use Rattle.cynara_client.proofs.Once.{reply_over_link, again_over_link, over_link_ends}
use Rattle.cynara_client.proofs.trying.talk_over.Goals as goal

pub returns-in-Reply : goal.returns-in-Reply
returns-in-Reply g c asking is_new due =
    reply_over_link g.N.Link.Link.faults g.N.Link.Link.marks g.N.Link.Link.traffic g.N.Dial.faults g.N.Dial.dials g.N.Dial.given_back
    asking c.args.link c.talk.new.link c.args.machine.now c.talk.new.machine is_new (c.talk.ensures.ends ∙ c.requires.unshared)
    c.in-Reply.message c.args.dial.now due.1 (c.in-Reply.ensures.came asking due.0)

pub returns-in-Dial : goal.returns-in-Dial
returns-in-Dial g c asking is_new due =
    again_over_link g.N.Link.Link.faults g.N.Link.Link.marks g.N.Link.Link.traffic g.N.Dial.faults g.N.Dial.dials g.N.Dial.given_back
    asking c.args.link c.talk.new.link c.args.machine.now c.talk.new.machine is_new (c.talk.ensures.ends ∙ c.requires.unshared)
    c.args.dial.now c.give_back.new.self
    (record { given = c.give_back.ensures.given; dialled = c.give_back.ensures.dials; counted = c.give_back.ensures.count })
    (c.in-Dial.ensures.came asking due.0)

pub returns-in-Over : goal.returns-in-Over
returns-in-Over g c asking is_new due =
    over_link_ends g.N.Link.Link.faults g.N.Link.Link.marks g.N.Link.Link.traffic g.N.Dial.faults g.N.Dial.dials g.N.Dial.given_back
    asking c.args.link c.talk.new.link c.args.machine.now c.talk.new.machine is_new (c.talk.ensures.ends ∙ c.requires.unshared)
    c.args.dial.now c.give_back-in-Over.new.self
    (record { given = c.give_back-in-Over.ensures.given; dialled = c.give_back-in-Over.ensures.dials; counted = c.give_back-in-Over.ensures.count })
    c.in-Over.fault (c.in-Over.ensures.came asking due.0)

pub unreachable-requires : goal.unreachable-requires
unreachable-requires g c =
    let due = c.requires.due in
    only_heard (tried due.0) c.talk.result c.args.machine.now c.talk.new.machine c.in_default.not-Reply c.in_default.not-Dial
    c.in_default.not-Over
    (λ result. Exchanges c.args.machine.now.frame result (g.N.Link.Link.traffic c.args.link) (g.N.Link.Link.traffic c.talk.new.link))
    (IsTrouble (g.N.Link.Link.marks c.talk.new.link) (g.N.Link.Link.faults c.talk.new.link)) (c.talk.ensures.came due.0 due.1.0)
