-- The lines of the replies to a message.
use Rattle.std.specs.Prelude.{ℕ, Bool, true, false, if◌then◌else◌, List, [], Option, Some, None}
use Rattle.std.specs.List.{flat_map}
use Rattle.bucket_eval.specs.declared.answers.Row.{Row}
use Rattle.bucket_eval.specs.declared.answers.Answer.{Answer}
use Rattle.line_answers.specs.Answers.{accepted_text, erased_text, by_policy_text, by_fallback_text, rows_text}
use Rattle.line_answers.specs.Answers.{refusal_text, store_fault_text, store_damaged_text, ruling}
use Rattle.script_replies.specs.Reply.{policy_text}
use Rattle.wire_fields.specs.declared.messages.Message.{Message}
use Rattle.wire_fields.specs.declared.messages.Message.TheVariants.{Erase, Done, Refused, StoreFault, StoreDamaged}
use Rattle.wire_fields.specs.declared.messages.Message.TheVariants.{Judged, ListRow, ListEnd}

-- what is accepted tells how many policies it erased
abbrev pub erases : Message → Bool
erases (Erase bucket filter) = true
erases message = false

abbrev pub verdict_by : ℕ → Answer → Option Row → List ℕ
verdict_by commit answer None = by_fallback_text commit answer.cause.bucket (ruling answer.kind.0 answer.metadata)
verdict_by commit answer (Some row) =
    by_policy_text commit answer.cause.bucket (ruling answer.kind.0 answer.metadata) row.client row.user row.privilege

-- no other message is a reply to an administrator
abbrev pub reply_text : Bool → Message → List ℕ
reply_text erases (Done commit erased) = if erases then erased_text commit erased else accepted_text commit
reply_text erases (Refused refusal) = refusal_text refusal
reply_text erases StoreFault = store_fault_text
reply_text erases (StoreDamaged file line) = store_damaged_text file line
reply_text erases (Judged verdict) = verdict_by verdict.commit verdict.answer verdict.answer.cause.row
reply_text erases (ListRow policy) = policy_text policy
reply_text erases (ListEnd count) = rows_text count
reply_text erases other = []

abbrev pub replies_text : Message → List Message → List ℕ
replies_text message replies = flat_map (reply_text (erases message)) replies
