-- What a client makes of the reply to a check.
use Rattle.std.specs.Prelude.{ℕ, ◌==◌, nat_lt, if◌then◌else◌, Option, Some, None, Result, Ok, Err}
use Rattle.wire_fields.specs.Operation.{number_of}
use Rattle.wire_fields.specs.Message.{operation}
use Rattle.wire_fields.specs.declared.messages.Framed.{Framed}
use Rattle.wire_fields.specs.declared.messages.Message.{Message}
use Rattle.wire_fields.specs.declared.messages.Message.TheVariants as message
use Rattle.wire_fields.specs.declared.refusals.WireRefusal.{WireRefusal}
use Rattle.wire_fields.specs.declared.refusals.WireRefusal.TheVariants.{Memory}
use Rattle.client_core.specs.declared.steps.Fault.{Fault}
use Rattle.client_core.specs.declared.steps.Fault.TheVariants as fault
use Rattle.cynara_client.specs.declared.refusals.Checked.{Checked}
use Rattle.cynara_client.specs.declared.refusals.Checked.TheVariants.{Judged, FromAgent}
use Rattle.cynara_client.specs.declared.refusals.ClientRefusal.{ClientRefusal}
use Rattle.cynara_client.specs.declared.refusals.ClientRefusal.TheVariants as refusal
use Rattle.client_connection.specs.declared.faults.ReplyFault.TheVariants.{Frame, Sequence, Operation}
use Rattle.cynara_client.specs.declared.replies.Said.{Said}

-- what the message answers to a check, and the commit that it tells, where it is a reply to one
abbrev pub said : Message → Option Said
said (message.Judged verdict) = Some (record { commit = verdict.commit; answer = Ok (Judged verdict) })
said (message.FromAgent commit kind number allowed) =
    Some (record { commit = commit; answer = Ok (FromAgent commit kind number allowed) })
said (message.NotResolved commit kind) = Some (record {
  commit = commit;
  answer = Err
      (refusal.NotResolved commit kind);
})
said (message.NoAgent commit kind) = Some (record { commit = commit; answer = Err (refusal.NoAgent commit kind) })
said (message.AgentGone commit number) = Some (record {
  commit = commit;
  answer = Err
      (refusal.AgentGone commit number);
})
said (message.AgentFull commit kind most) =
    Some (record { commit = commit; answer = Err (refusal.AgentFull commit kind most) })
said other = None

-- a reply below the commit that the client was told of is no answer
abbrev pub unless_older : ℕ → Said → Result Checked ClientRefusal
unless_older told heard =
    if nat_lt heard.commit told then Err (refusal.Older told heard.commit) else heard.answer

abbrev pub answer_to : ℕ → Message → Option Said → Result Checked ClientRefusal
answer_to told message None = Err (refusal.BadReply (Operation (number_of (operation message))))
answer_to told message (Some heard) = unless_older told heard

-- what a message that is a reply to a check answers
abbrev pub answer_in : Message → Option Said → Result Checked ClientRefusal
answer_in message None = Err (refusal.BadReply (Operation (number_of (operation message))))
answer_in message (Some heard) = heard.answer

-- What the frame says: another sequence number is found first, then an operation that is no answer, and then a commit
-- below the one that the client was told of.
abbrev pub reply_of : ℕ → ℕ → Framed → Result Checked ClientRefusal
reply_of sequence told framed =
    if framed.sequence == sequence then answer_to told framed.message (said framed.message)
    else Err (refusal.BadReply (Sequence sequence framed.sequence))

-- bytes that are no frame are a bad reply; and no memory may be found to read them
abbrev pub refusal_of : WireRefusal → ClientRefusal
refusal_of (Memory error) = refusal.Memory error
refusal_of fault = refusal.BadReply (Frame fault)

-- why there is no answer, by what the machine says
abbrev pub refusal_by : Fault → ClientRefusal
refusal_by fault.Unavailable = refusal.Unavailable
refusal_by (fault.Older told got) = refusal.Older told got
refusal_by (fault.Frame wrong) = refusal.BadReply (Frame wrong)
refusal_by (fault.Sequence sent got) = refusal.BadReply (Sequence sent got)
refusal_by (fault.Operation operation) = refusal.BadReply (Operation operation)
refusal_by (fault.Memory error) = refusal.Memory error
