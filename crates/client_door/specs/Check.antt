-- A check as a frame, and its reply as a message.
use Rattle.desk_world.specs.declared.replies.Reply.{Reply}
use Rattle.desk_world.specs.declared.replies.Reply.TheVariants as reply
use Rattle.wire_reading.specs.Frame.{with_sequence}
use Rattle.wire_reading.specs.Lent.{asks}
use Rattle.wire_fields.specs.declared.messages.Framed.{Framed}
use Rattle.wire_fields.specs.declared.messages.Message.{Message}
use Rattle.wire_fields.specs.declared.messages.Message.TheVariants as message
use Rattle.client_door.specs.declared.checks.Check.{Check}
use Rattle.client_door.specs.declared.agent_replies.AgentReply.{AgentReply}
use Rattle.client_door.specs.declared.agent_replies.AgentReply.TheVariants as agent

-- the frame that asks
abbrev pub framed_of : Check → Framed
framed_of check = with_sequence check.sequence (asks check.simple check.question)

-- a message that is no check
abbrev pub IsNoCheck : Message → Type 0
IsNoCheck (message.Check question) = ⊥
IsNoCheck (message.SimpleCheck question) = ⊥
IsNoCheck other = Unit {0}

-- the message that tells a reply
abbrev pub message_of : Reply → Message
message_of (reply.Judged verdict) = message.Judged verdict
message_of (reply.FromAgent commit kind number allowed) = message.FromAgent commit kind number allowed
message_of (reply.NotResolved commit kind) = message.NotResolved commit kind
message_of (reply.NoAgent commit kind) = message.NoAgent commit kind
message_of (reply.AgentGone commit number) = message.AgentGone commit number
message_of (reply.AgentFull commit kind most) = message.AgentFull commit kind most

-- the reply that an agent leads to
abbrev pub reply_of : AgentReply → Reply
reply_of (agent.FromAgent commit kind number allowed) = reply.FromAgent commit kind number allowed
reply_of (agent.NoAgent commit kind) = reply.NoAgent commit kind
reply_of (agent.AgentGone commit number) = reply.AgentGone commit number
reply_of (agent.AgentFull commit kind most) = reply.AgentFull commit kind most
