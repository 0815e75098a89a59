-- The status of a question: 0 where it is allowed, 1 where it is denied, 2 where nobody decided, 3 where it was not
-- asked.
use Rattle.std.specs.Prelude.{◌≡◌, ◌⊎◌, ℕ, Bool, true, ◌==◌, if◌then◌else◌, Result, Ok, Err}
use Rattle.cynara_keys.specs.PolicyResult.{allow, deny}
use Rattle.cynara_client.specs.declared.refusals.Checked.{Checked}
use Rattle.cynara_client.specs.declared.refusals.Checked.TheVariants.{Judged, FromAgent}
use Rattle.cynara_client.specs.declared.refusals.ClientRefusal.{ClientRefusal}
use Rattle.cynara_client.specs.declared.refusals.ClientRefusal.TheVariants as refusal
use Rattle.ctl_may.specs.declared.asking.Telling.{Telling}
use Rattle.ctl_may.specs.declared.asking.Telling.TheVariants.{Line, Json, Quiet}

-- what the kind of a result says of a question
abbrev pub status_of_kind : ℕ → ℕ
status_of_kind kind = if kind == allow then 0 else (if kind == deny then 1 else 2)

-- what an answer says
abbrev pub status_of_checked : Checked → ℕ
status_of_checked (Judged verdict) = status_of_kind verdict.answer.kind.0
status_of_checked (FromAgent commit kind number allowed) = if allowed then 0 else 1

-- Nobody decided where an agent would have to be asked and did not answer. Where no reply came, or one that is none,
-- the question counts as not asked.
abbrev pub status_of : Result Checked ClientRefusal → ℕ
status_of (Ok checked) = status_of_checked checked
status_of (Err (refusal.NotResolved commit kind)) = 2
status_of (Err (refusal.NoAgent commit kind)) = 2
status_of (Err (refusal.AgentGone commit number)) = 2
status_of (Err (refusal.AgentFull commit kind most)) = 2
status_of (Err refusal.Unavailable) = 3
status_of (Err (refusal.Older told got)) = 3
status_of (Err (refusal.BadReply fault)) = 3
status_of (Err (refusal.Memory error)) = 3

-- the answer allows: by the policies, or by an agent
abbrev pub Allows : Result Checked ClientRefusal → Type 0
Allows (Ok (Judged verdict)) = verdict.answer.kind.0 ≡ allow
Allows (Ok (FromAgent commit kind number allowed)) = allowed ≡ true
Allows (Err refused) = ⊥

-- The status is that of the answer. Where a text has to be told besides, it is 3 if that cannot be told.
abbrev pub Ends : Telling → ℕ → ℕ → Type 0
Ends Quiet wanted status = status ≡ wanted
Ends Line wanted status = (status ≡ wanted) ⊎ (status ≡ 3)
Ends Json wanted status = (status ≡ wanted) ⊎ (status ≡ 3)
