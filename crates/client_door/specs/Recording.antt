-- What is recorded of the checks that were decided: each once its reply was sent.
use Rattle.std.specs.Prelude.{◌≡◌, ◌==◌, List, [], ◌∷◌, ◌++◌, Option, Some, None}
use Rattle.std.specs.List.{flat_map}
use Rattle.cynara_keys.specs.Key.{Question}
use Rattle.bucket_eval.specs.declared.answers.Cause.{Cause}
use Rattle.desk_world.specs.declared.replies.Reply.{Reply}
use Rattle.desk_world.specs.declared.replies.Reply.TheVariants.{Judged, FromAgent}
use Rattle.client_door.specs.Answered.{Answered}
use Rattle.client_door.specs.Reading.{cause_at}
use Rattle.client_door.specs.declared.agent_replies.AgentReply.{AgentReply}
use Rattle.client_door.specs.declared.agent_replies.AgentReply.TheVariants.{FromAgent as AgentSaid}
use Rattle.client_door.specs.declared.judgements.Decision.{Decision}
use Rattle.client_door.specs.declared.judgements.Judgement.{Judgement}

-- what a recorder recorded, and what it noted since, whose replies are not sent yet
pub record Recording : Type 0 where
  pub recorded : List Judgement
  pub waiting : List Judgement

-- nothing waits behind what was recorded
abbrev pub with_none_waiting : List Judgement → Recording
with_none_waiting recorded = record { recorded = recorded; waiting = [] }

-- a check was noted
abbrev pub with_noted : Judgement → Recording → Recording
with_noted judgement recording = record recording { waiting = recording.waiting ++ judgement ∷ [] }

-- all that waited was recorded
abbrev pub with_all_recorded : Recording → Recording
with_all_recorded recording = with_none_waiting (recording.recorded ++ recording.waiting)

-- What may be said of a recorder since a start, whichever it is: wherever it was one recording, it is another one now, and of the
-- two this holds. Of a recorder that records nothing it is none.
abbrev pub Leads : {S : Type 0} → (S → Option Recording → Type 0) → (S → Option Recording → Type 0)
    → (Option Recording → Option Recording → Type 0) → Type 0
Leads {S} Was Is P =
    (start : S) (before : Option Recording) → Was start before → (after : Option Recording) × Is start after × P before after

-- ---- of checks that were answered

-- What a reply decides of a question: what the verdict of the policies says; or what an agent said, whom the policies named for
-- this cause. Any other reply decides nothing.
abbrev pub judged_by : Cause → Question → Reply → List Judgement
judged_by cause question (Judged verdict) = record {
  question = question;
  decision = record { commit = verdict.commit; agent = None; allowed = verdict.answer.kind.0 == 65535 };
  cause = verdict.answer.cause;
} ∷ []
judged_by cause question (FromAgent commit kind number allowed) = record {
  question = question;
  decision = record { commit = commit; agent = Some kind; allowed = allowed };
  cause = cause;
} ∷ []
judged_by cause question other = []

-- what an agent decides, if it does
abbrev pub decision_of : AgentReply → Option Decision
decision_of (AgentSaid commit kind number allowed) = Some (record { commit = commit; agent = Some kind; allowed = allowed })
decision_of other = None

-- what was decided of an answered check, at the state at which it was read
abbrev pub judged_of : Answered → List Judgement
judged_of one = judged_by (cause_at one.desk one.check.question) one.check.question one.reply

-- those of the answered checks that were decided, in their order
abbrev pub judged_in : List Answered → List Judgement
judged_in answered = flat_map judged_of answered

-- Since nothing waited these were recorded, and no others; those that wait are recorded no more where a connection has ended.
abbrev pub HasRecorded : Option Recording → List Judgement → Option Recording → Type 0
HasRecorded before judged after = (old : List Judgement) → before ≡ Some (with_none_waiting old)
    → (waiting : List Judgement) × (after ≡ Some (record { recorded = old ++ judged; waiting = waiting }))
