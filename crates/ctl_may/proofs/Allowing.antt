-- Status 0 comes only behind an answer that allows.
use Rattle.std.proofs.Common.{◌≡◌, ◌∙◌, inl, inr, ℕ, Bool, true, false, cond, eqb, Result, Ok, Err, sym, refl}
use Rattle.std.proofs.lemmas.Bool.{eqb-true}
use Rattle.cynara_keys.specs.PolicyResult.{allow, deny}
use Rattle.cynara_client.specs.declared.refusals.Checked.{Checked}
use Rattle.cynara_client.specs.declared.refusals.Checked.TheVariants.{Judged, FromAgent}
use Rattle.cynara_client.specs.declared.refusals.ClientRefusal.{ClientRefusal}
use Rattle.cynara_client.specs.declared.refusals.ClientRefusal.TheVariants as refusal
use Rattle.ctl_may.specs.declared.asking.Telling.{Telling}
use Rattle.ctl_may.specs.declared.asking.Telling.TheVariants.{Line, Json, Quiet}
use Rattle.ctl_may.specs.Status.{status_of, Allows, Ends}

abbrev by_kind : Bool → Bool → ℕ
by_kind a b = cond a 0 (cond b 1 2)

abbrev by_agent : Bool → ℕ
by_agent allowed = cond allowed 0 1

by_tests : (a b : Bool) → by_kind a b ≡ 0 → a ≡ true
by_tests true b is = refl
by_tests false true is = cc
by_tests false false is = cc

agent_allows : (allowed : Bool) → by_agent allowed ≡ 0 → allowed ≡ true
agent_allows true is = refl
agent_allows false is = cc

pub allows : (answer : Result Checked ClientRefusal) → status_of answer ≡ 0 → Allows answer
allows (Ok (Judged verdict)) is =
    eqb-true verdict.answer.kind.0 allow (by_tests (eqb verdict.answer.kind.0 allow) (eqb verdict.answer.kind.0 deny) is)
allows (Ok (FromAgent commit kind number allowed)) is = agent_allows allowed is
allows (Err (refusal.NotResolved commit kind)) is = cc
allows (Err (refusal.NoAgent commit kind)) is = cc
allows (Err (refusal.AgentGone commit number)) is = cc
allows (Err (refusal.AgentFull commit kind most)) is = cc
allows (Err refusal.Unavailable) is = cc
allows (Err (refusal.Older told got)) is = cc
allows (Err (refusal.BadReply fault)) is = cc
allows (Err (refusal.Memory error)) is = cc

never : (status : ℕ) → status ≡ 3 → status ≡ 0 → ⊥
never status three none = let other : ◌≡◌ {A = ℕ} 3 0 = sym three ∙ none in cc

pub zero_is_wanted : (telling : Telling) (wanted status : ℕ) → Ends telling wanted status → status ≡ 0 → wanted ≡ 0
zero_is_wanted Quiet wanted status ends none = sym ends ∙ none
zero_is_wanted Line wanted status (inl ends) none = sym ends ∙ none
zero_is_wanted Line wanted status (inr three) none = absurd (never status three none)
zero_is_wanted Json wanted status (inl ends) none = sym ends ∙ none
zero_is_wanted Json wanted status (inr three) none = absurd (never status three none)
