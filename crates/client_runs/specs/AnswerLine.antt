-- The line of what a check is answered, and how a run ends that has none.
use Rattle.std.specs.Prelude.{◌≡◌, ℕ, List, Option, Some, None, Result, Ok, Err}
use Rattle.bucket_eval.specs.declared.answers.Row.{Row}
use Rattle.bucket_eval.specs.declared.answers.Answer.{Answer}
use Rattle.bucket_eval.specs.declared.answers.Verdict.{Verdict}
use Rattle.line_answers.specs.Answers.{by_policy_text, by_fallback_text, from_agent_text, not_resolved_text}
use Rattle.line_answers.specs.Answers.{no_agent_text, agent_gone_text, agent_full_text, ruling}
use Rattle.run_endings.specs.Saying.{Said, silence}
use Rattle.run_endings.specs.declared.endings.Ending.{Ending}
use Rattle.run_endings.specs.declared.endings.Ending.TheVariants.{Done, Memory, Sink, Net, Reply}
use Rattle.cynara_client.specs.declared.refusals.Checked.{Checked}
use Rattle.cynara_client.specs.declared.refusals.Checked.TheVariants.{Judged, FromAgent}
use Rattle.cynara_client.specs.declared.refusals.ClientRefusal.{ClientRefusal}
use Rattle.cynara_client.specs.declared.refusals.ClientRefusal.TheVariants as refusal

abbrev pub verdict_by : ℕ → Answer → Option Row → List ℕ
verdict_by commit answer None = by_fallback_text commit answer.cause.bucket (ruling answer.kind.0 answer.metadata)
verdict_by commit answer (Some row) =
    by_policy_text commit answer.cause.bucket (ruling answer.kind.0 answer.metadata) row.client row.user row.privilege

-- the policies decide: by a policy, or by the fallback of a bucket
abbrev pub verdict_line : Verdict → List ℕ
verdict_line verdict = verdict_by verdict.commit verdict.answer verdict.answer.cause.row

abbrev pub checked_text : Checked → List ℕ
checked_text (Judged verdict) = verdict_line verdict
checked_text (FromAgent commit kind number allowed) = from_agent_text commit allowed kind.0 number

-- The line of an answer, or the ending of a run without one. What the service refuses is an answer. Nobody told the
-- client of a commit, so that no reply is older than what it was told of.
abbrev pub line_of : Result Checked ClientRefusal → Result (List ℕ) Ending
line_of (Ok checked) = Ok (checked_text checked)
line_of (Err (refusal.NotResolved commit kind)) = Ok (not_resolved_text commit kind.0)
line_of (Err (refusal.NoAgent commit kind)) = Ok (no_agent_text commit kind.0)
line_of (Err (refusal.AgentGone commit number)) = Ok (agent_gone_text commit number)
line_of (Err (refusal.AgentFull commit kind most)) = Ok (agent_full_text commit kind.0 most)
line_of (Err refusal.Unavailable) = Err Net
line_of (Err (refusal.Older told got)) = Err Reply
line_of (Err (refusal.BadReply fault)) = Err Reply
line_of (Err (refusal.Memory error)) = Err Memory

-- a call gives this text, or finds no memory
abbrev pub GivesText : List ℕ → Result (List ℕ) Ending → Type 0
GivesText text (Ok line) = line ≡ text
GivesText text (Err Memory) = Unit {0}
GivesText text (Err ending) = ⊥

-- it gives the line that is wanted, or how the run ends that is to have none
abbrev pub GivesFrom : Result (List ℕ) Ending → Result (List ℕ) Ending → Type 0
GivesFrom (Ok text) result = GivesText text result
GivesFrom (Err wanted) result = result ≡ Err wanted

abbrev pub GivesLine : Result Checked ClientRefusal → Result (List ℕ) Ending → Type 0
GivesLine answer result = GivesFrom (line_of answer) result

-- what is said of a line that is due, and how the run ends
abbrev pub SaysLine : Result (List ℕ) Ending → Said → Ending → Type 0
SaysLine (Ok line) said Done = said.due ≡ line
SaysLine (Ok line) said Sink = said.due ≡ line
SaysLine (Ok line) said Memory = said ≡ silence
SaysLine (Ok line) said ending = ⊥
SaysLine (Err wanted) said ending = (ending ≡ wanted) × (said ≡ silence)

abbrev pub Says : Result Checked ClientRefusal → Said → Ending → Type 0
Says answer said ending = SaysLine (line_of answer) said ending
