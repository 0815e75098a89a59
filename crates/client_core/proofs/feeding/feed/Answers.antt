use Rattle.client_core.proofs.Hearing.{whole, more, wrong}
use Rattle.client_core.proofs.feeding.feed.Goals as goal

pub returns-in-Some : goal.returns-in-Some
returns-in-Some c =
    whole c.no_byte_past_a_frame.ensures c.args.feeder.now c.feed.new.self c.take.new.self c.args.piece.now c.in-Some.framed
    c.requires.waiting c.requires.sound c.requires.open_frame c.requires.wanted c.in-Ok.ensures.fed c.in-Some.ensures.taken
    c.take.ensures.rest

pub returns-in-None : goal.returns-in-None
returns-in-None c =
    more c.no_byte_past_a_frame.ensures c.args.feeder.now c.feed.new.self c.take.new.self c.args.piece.now
    c.requires.waiting c.requires.sound c.requires.open_frame c.requires.wanted c.in-Ok.ensures.fed c.in-None.ensures.taken
    (c.take.ensures.empty c.in-None.ensures.taken)

pub returns-in-Err : goal.returns-in-Err
returns-in-Err c =
    wrong c.no_byte_past_a_frame.ensures c.args.feeder.now c.feed.new.self c.args.piece.now c.in-Err.refusal
    c.requires.open_frame c.requires.wanted (c.in-Err.ensures.refused c.requires.sound)
