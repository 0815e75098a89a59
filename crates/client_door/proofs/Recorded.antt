-- What is noted, recorded and kept of the checks that were decided.
use Rattle.std.proofs.Common.{◌≡◌, ◌∙◌, ◌==◌, ℕ, Bool, true, false, List, [], ◌∷◌, ◌++◌, Option, Some, None, refl, sym, ap, append_assoc}
use Rattle.std.proofs.Common.{append-nil}
use Rattle.std.proofs.lemmas.Grind.{flat_map-append}
use Rattle.link_ports.specs.Told.{ChangesTold}
use Rattle.cynara_keys.specs.Key.{Question}
use Rattle.bucket_eval.specs.Evaluation.{Outcome}
use Rattle.bucket_eval.specs.Found.{answer_of}
use Rattle.bucket_eval.specs.Root.{root_outcome}
use Rattle.bucket_eval.specs.declared.answers.Cause.{Cause}
use Rattle.bucket_eval.specs.declared.answers.Verdict.{Verdict}
use Rattle.cynara_keys.specs.PolicyResult.{is_agent}
use Rattle.desk_state.specs.DeskState.{DeskState}
use Rattle.desk_world.specs.Links.{read_as}
use Rattle.desk_world.specs.declared.links.Reading.{Reading}
use Rattle.desk_world.specs.declared.links.Reading.TheVariants.{Ready}
use Rattle.desk_world.specs.declared.replies.Reply.{Reply}
use Rattle.desk_world.specs.declared.replies.Reply.TheVariants.{Judged}
use Rattle.client_door.specs.Check.{reply_of}
use Rattle.client_door.specs.Answered.{Answered}
use Rattle.client_door.specs.Reading.{cause_at, reading}
use Rattle.client_door.specs.declared.checks.Check.{Check}
use Rattle.client_door.specs.declared.judgements.Decision.{Decision}
use Rattle.client_door.specs.declared.judgements.Judgement.{Judgement}
use Rattle.client_door.specs.Recording.{Recording, with_none_waiting, with_noted, with_all_recorded, judged_by, judged_of, judged_in}
use Rattle.client_door.specs.Recording.{HasRecorded, decision_of}
use Rattle.client_door.specs.parts.Talk.{IsKept, Notes}
use Rattle.client_door.specs.declared.agent_replies.AgentReply.{AgentReply}
use Rattle.client_door.specs.declared.agent_replies.AgentReply.TheVariants.{FromAgent, NoAgent, AgentGone, AgentFull}

pub judged_snoc : (answered : List Answered) (next : Answered)
    → judged_in (answered ++ next ∷ []) ≡ judged_in answered ++ judged_of next
judged_snoc answered next =
    flat_map-append judged_of answered (next ∷ []) ∙ ap (λ list. judged_in answered ++ list) (append-nil (judged_of next))

pub judged_more : (answered more : List Answered) → judged_in (answered ++ more) ≡ judged_in answered ++ judged_in more
judged_more answered more = flat_map-append judged_of answered more

-- ---- the cause that a verdict says is that of the state

cause_in : Cause → Reply → Cause
cause_in other (Judged verdict) = verdict.answer.cause
cause_in other reply = other

cause_read : Cause → Reading → Cause
cause_read other (Ready reply) = cause_in other reply
cause_read other seen = other

cause_as : (agent : Bool) (commit : ℕ) (simple : Bool) (outcome : Outcome)
    → cause_read (answer_of outcome).cause (read_as agent commit simple outcome) ≡ (answer_of outcome).cause
unfolding cause_read cause_in
cause_as false commit simple outcome = refl
cause_as true commit true outcome = refl
cause_as true commit false outcome = refl

cause_is : (desk : DeskState) (check : Check) (verdict : Verdict) → reading desk check ≡ Ready (Judged verdict)
    → cause_at desk check.question ≡ verdict.answer.cause
unfolding cause_read cause_in
cause_is desk check verdict is =
    let outcome : Outcome = root_outcome desk.database check.question in
    sym (cause_as (is_agent outcome.result.kind) desk.commit check.simple outcome)
    ∙ ap (λ (seen : Reading). cause_read (answer_of outcome).cause seen) is

-- ---- what is noted

-- nothing was noted of a reply that decides nothing
pub notes_nothing : (told : Option Recording) (judged : List Judgement) → judged ≡ [] → Notes told judged told
notes_nothing told judged none state is =
    is ∙ ap (λ list. Some (record state { waiting = list })) (sym (ap (λ list. state.waiting ++ list) none ∙ append-nil state.waiting))

-- a check was noted that the policies judged so
pub notes_judged : (before after : Option Recording) (desk : DeskState) (check : Check) (verdict : Verdict) (commit : ℕ) (allowed : Bool)
    → reading desk check ≡ Ready (Judged verdict) → commit ≡ verdict.commit → allowed ≡ (verdict.answer.kind.0 == 65535)
    → ChangesTold before (with_noted (record {
      question = check.question;
      decision = record { commit = commit; agent = None; allowed = allowed };
      cause = cause_at desk check.question;
    })) after
    → Notes before (judged_by (cause_at desk check.question) check.question (Judged verdict)) after
notes_judged before after desk check verdict commit allowed seen at is noted state told =
    noted state told
    ∙ λ i. Some (record state {
      waiting = state.waiting ++ record {
        question = check.question;
        decision = record { commit = at i; agent = None; allowed = is i };
        cause = cause_is desk check verdict seen i;
      } ∷ [];
    })

decided : Decision → Option Decision → Decision
decided other None = other
decided other (Some decision) = decision

-- what an agent decided
judged_by_agent : (cause : Cause) (question : Question) (reply : AgentReply) (decision : Decision) → Some decision ≡ decision_of reply
    → record { question = question; decision = decision; cause = cause } ∷ [] ≡ judged_by cause question (reply_of reply)
unfolding decided
judged_by_agent cause question (FromAgent commit kind number allowed) decision is =
    ap (λ (one : Decision). record { question = question; decision = one; cause = cause } ∷ []) (ap (decided decision) is)
judged_by_agent cause question (NoAgent commit kind) decision is = cc
judged_by_agent cause question (AgentGone commit number) decision is = cc
judged_by_agent cause question (AgentFull commit kind most) decision is = cc

-- no agent decided
judged_by_none : (cause : Cause) (question : Question) (reply : AgentReply) → None ≡ decision_of reply
    → judged_by cause question (reply_of reply) ≡ []
judged_by_none cause question (FromAgent commit kind number allowed) is = cc
judged_by_none cause question (NoAgent commit kind) is = refl
judged_by_none cause question (AgentGone commit number) is = refl
judged_by_none cause question (AgentFull commit kind most) is = refl

-- a check was noted that an agent decided so
pub notes_by_agent : (before after : Option Recording) (cause : Cause) (question : Question) (reply : AgentReply) (decision : Decision)
    → Some decision ≡ decision_of reply
    → ChangesTold before (with_noted (record { question = question; decision = decision; cause = cause })) after
    → Notes before (judged_by cause question (reply_of reply)) after
notes_by_agent before after cause question reply decision is noted state told =
    noted state told
    ∙ ap (λ (list : List Judgement). Some (record state { waiting = state.waiting ++ list }))
    (judged_by_agent cause question reply decision is)

-- none was noted
pub notes_of_none : (told : Option Recording) (cause : Cause) (question : Question) (reply : AgentReply) → None ≡ decision_of reply
    → Notes told (judged_by cause question (reply_of reply)) told
notes_of_none told cause question reply is =
    notes_nothing told (judged_by cause question (reply_of reply)) (judged_by_none cause question reply is)

-- ---- what is kept

pub keeps_nothing : (told : Option Recording) → IsKept told [] [] told
keeps_nothing told old is = is ∙ ap (λ list. Some (with_none_waiting list)) (sym (append-nil old))

pub keeps_noted : (before then after : Option Recording) (sent unsent : List Answered) (next : Answered)
    → IsKept before (judged_in sent) (judged_in unsent) then → Notes then (judged_of next) after
    → IsKept before (judged_in sent) (judged_in (unsent ++ next ∷ [])) after
keeps_noted before then after sent unsent next kept noted old is =
    noted (record { recorded = old ++ judged_in sent; waiting = judged_in unsent }) (kept old is)
    ∙ ap (λ list. Some (record { recorded = old ++ judged_in sent; waiting = list })) (sym (judged_snoc unsent next))

pub keeps_recorded : (before then after : Option Recording) (sent unsent : List Answered)
    → IsKept before (judged_in sent) (judged_in unsent) then → ChangesTold then with_all_recorded after
    → IsKept before (judged_in (sent ++ unsent)) [] after
keeps_recorded before then after sent unsent kept recorded old is =
    recorded (record { recorded = old ++ judged_in sent; waiting = judged_in unsent }) (kept old is)
    ∙ ap (λ list. Some (with_none_waiting list))
    (append_assoc old (judged_in sent) (judged_in unsent) ∙ ap (λ list. old ++ list) (sym (judged_more sent unsent)))

-- what was recorded where the answering ends so
pub has_recorded : (before then after : Option Recording) (sent unsent : List Answered)
    → IsKept before (judged_in sent) (judged_in unsent) then → after ≡ then → HasRecorded before (judged_in sent) after
has_recorded before then after sent unsent kept same old is = (judged_in unsent, same ∙ kept old is)
