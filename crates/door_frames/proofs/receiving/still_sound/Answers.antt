use Rattle.door_frames.proofs.Hearing.{fed_nothing, refused_nothing}
use Rattle.door_frames.proofs.receiving.still_sound.Goals as goal

pub returns-in-Ok-clause-sound : goal.returns-in-Ok-clause-sound
returns-in-Ok-clause-sound c =
    fed_nothing c.args.feeder.now c.feed.new.self c.feed.result c.in-Ok.field-0 c.in-Ok.is c.requires.sound c.in-Ok.ensures.fed c.feed.ensures.again

pub returns-in-Err-clause-refused : goal.returns-in-Err-clause-refused
returns-in-Err-clause-refused c =
    refused_nothing c.pieces_do_not_matter.ensures c.args.feeder.now c.feed.new.self c.feed.result c.in-Err.refusal c.in-Err.is
    c.requires.sound c.requires.taken c.in-Err.ensures.refused c.feed.ensures.again
