use Rattle.std.proofs.Common.{rules, length, take}
use Rattle.agent_runs.proofs.Making.{came, only_these}
use Rattle.agent_runs.proofs.hearing.take_piece.Goals as goal

pub returns-in-Wait : goal.returns-in-Wait
returns-in-Wait g c =
    came (take c.in-Ok.count c.receive.new.into) c.in-Ok.count (length c.args.room.now) (search rules) (search rules)
    c.in-Ok.ensures.within c.requires.wanted c.in-Wait.ensures c.in-Ok.ensures.received c.in-Ok.ensures.marks c.in-Ok.ensures.count

pub returns-in-Reply : goal.returns-in-Reply
returns-in-Reply g c =
    came (take c.in-Ok.count c.receive.new.into) c.in-Ok.count (length c.args.room.now) (search rules) (search rules)
    c.in-Ok.ensures.within c.requires.wanted c.in-Reply.ensures c.in-Ok.ensures.received c.in-Ok.ensures.marks c.in-Ok.ensures.count

pub returns-in-Over : goal.returns-in-Over
returns-in-Over g c =
    came (take c.in-Ok.count c.receive.new.into) c.in-Ok.count (length c.args.room.now) (search rules) (search rules)
    c.in-Ok.ensures.within c.requires.wanted c.in-Over.ensures c.in-Ok.ensures.received c.in-Ok.ensures.marks c.in-Ok.ensures.count

pub unreachable-requires : goal.unreachable-requires
unreachable-requires g c =
    only_these c.came.result c.args.machine.now c.came.new.self (take c.in-Ok.count c.receive.new.into) c.in-Ok.count
    (length c.args.room.now) c.requires.ready (search rules) (search rules) c.in-Ok.ensures.within c.requires.wanted c.came.ensures
    c.in_default.not-Wait c.in_default.not-Reply c.in_default.not-Over
