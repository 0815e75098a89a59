use Rattle.std.proofs.Common.{◌%◌, [], subst}
use Rattle.cynara_keys.specs.PolicyResult.{Ruling}
use Rattle.wire_reading.specs.Frame.{spelling, with_sequence}
use Rattle.wire_fields.specs.declared.messages.Message.TheVariants.{AgentQuestion}
use Rattle.door_frames.specs.Carried.{Carried}
use Rattle.agent_door.proofs.rounds.send_question.Goals as goal

pub returns-in-Ok-send-clause-sent : goal.returns-in-Ok-send-clause-sent
returns-in-Ok-send-clause-sent g c = (
  subst (λ (ruling : Ruling). Carried (g.L.Link.traffic c.args.link.now) (g.L.Link.traffic c.send.new.link) []
      (spelling (with_sequence (c.args.asked.number % 0x10000) (AgentQuestion c.args.asked.number c.args.asked.question ruling))))
      c.in-Ok.ensures.result c.in-Ok-send.ensures.sent.0,
  c.in-Ok-send.ensures.sent.1,
)
