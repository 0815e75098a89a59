use Rattle.std.proofs.Common.{Option, subst}
use Rattle.wire_fields.specs.declared.messages.Framed.{Framed}
use Rattle.agent_door.specs.parts.Talk.{EndsHearing, HearsFrame}
use Rattle.agent_door.proofs.waiting.answer_in_time.Goals as goal

pub returns-in-Err-read_answer-clause-taken : goal.returns-in-Err-read_answer-clause-taken
returns-in-Err-read_answer-clause-taken g c =
    let (bytes, carried, hears) = c.in-Ok-Some.ensures.taken in
    EndsHearing.misplaced bytes c.in-Ok-Some.framed carried
    (subst (λ (found : Option Framed). HearsFrame found bytes c.args.feeder.now c.frame_in_time.new.feeder) c.in-Ok-Some.field-0-is hears)
    c.frame_in_time.ensures.side c.in-Err-read_answer.ensures c.in-Ok-Some.ensures.faults

pub returns-in-Err-clause-taken : goal.returns-in-Err-clause-taken
returns-in-Err-clause-taken g c =
    let (between, least, reading, bytes, carried, hears, none) = c.in-Err.ensures.taken in
    EndsHearing.unheard bytes between carried hears none c.frame_in_time.ensures.side least reading
