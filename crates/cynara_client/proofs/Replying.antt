-- A reply that is right is what a check is answered, and one that is wrong is a refusal that takes the link.
use Rattle.std.proofs.Common.{◌≡◌, ℕ, Bool, true, false, List, Option, Some, None, Result, Ok, Err, refl, sym, ap, ◌∙◌, subst}
use Rattle.std.specs.Prelude.{nat_lt, ◌==◌, if◌then◌else◌, MatchBool}
use Rattle.link_ports.specs.LinkMarks.{LinkMarks}
use Rattle.bucket_eval.specs.declared.answers.Verdict.{Verdict}
use Rattle.answer_cache.specs.Cache.{Asked, Cache}
use Rattle.wire_fields.specs.declared.messages.Framed.{Framed}
use Rattle.wire_fields.specs.declared.messages.Message.{Message}
use Rattle.wire_fields.specs.declared.messages.Message.TheVariants as message
use Rattle.wire_fields.specs.Operation.{number_of}
use Rattle.wire_fields.specs.Message.{operation}
use Rattle.wire_fields.specs.declared.refusals.WireRefusal.{WireRefusal}
use Rattle.wire_fields.specs.declared.refusals.WireRefusal.TheVariants as wire
use Rattle.client_core.specs.Hearing.{fault_by}
use Rattle.client_core.specs.Asking.{commit_of, commit_fault, fault_in, verdict_of, is_kept, IsKept as KeepsOf}
use Rattle.client_core.specs.declared.steps.Fault.{Fault}
use Rattle.client_core.specs.declared.steps.Fault.TheVariants as fault
use Rattle.cynara_client.specs.State.{State}
use Rattle.cynara_client.specs.Refusing.{keeps_link}
use Rattle.cynara_client.specs.Reply.{said, unless_older, answer_to, answer_in, reply_of, refusal_of, refusal_by}
use Rattle.cynara_client.specs.Checking.{IsKept, Ends, Leaves}
use Rattle.cynara_client.specs.declared.replies.Said.{Said}
use Rattle.cynara_client.specs.declared.refusals.Checked.{Checked}
use Rattle.cynara_client.specs.declared.refusals.Checked.TheVariants.{Judged, FromAgent}
use Rattle.cynara_client.specs.declared.refusals.ClientRefusal.{ClientRefusal}

-- ---- what is known of a message by what it says

abbrev IsRight : Result Checked ClientRefusal → Type 0
IsRight (Ok answer) = Unit {0}
IsRight (Err refused) = keeps_link refused ≡ true

abbrev verdict_in : Result Checked ClientRefusal → Option Verdict
verdict_in (Ok (Judged verdict)) = Some verdict
verdict_in other = None

abbrev Facts : Message → Option Said → Type 0
Facts m None = commit_of m ≡ None
Facts m (Some s) = (commit_of m ≡ Some s.commit) × (verdict_of m ≡ verdict_in s.answer) × IsRight s.answer

facts : (m : Message) → Facts m (said m)
facts (message.Judged verdict) = (refl, refl, tt)
facts (message.FromAgent commit kind number allowed) = (refl, refl, tt)
facts (message.NotResolved commit kind) = (refl, refl, refl)
facts (message.NoAgent commit kind) = (refl, refl, refl)
facts (message.AgentGone commit number) = (refl, refl, refl)
facts (message.AgentFull commit kind most) = (refl, refl, refl)
facts other = refl

-- ---- which fault it is

abbrev tested : Bool → ℕ → ℕ → Option Fault
tested older told got = if older then Some (fault.Older told got) else None

older_right : (older : Bool) (told : ℕ) (s : Said) → nat_lt s.commit told ≡ older → tested older told s.commit ≡ None
    → s.answer ≡ unless_older told s
older_right true told s t is = cc
older_right false told s t is =
    sym (ap (λ (b : Bool). if b then Err (refusal_by (fault.Older told s.commit)) else s.answer) t)

right_at : (told : ℕ) (m : Message) (s : Option Said) → Facts m s → commit_fault told m (commit_of m) ≡ None
    → answer_in m s ≡ answer_to told m s
right_at told m None f is = refl
right_at told m (Some s) f is =
    older_right (nat_lt s.commit told) told s refl (subst (λ (c : Option ℕ). commit_fault told m c ≡ None) f.0 is)

older_wrong : (older : Bool) (told : ℕ) (s : Said) (found : Fault) → nat_lt s.commit told ≡ older → tested older told s.commit ≡ Some found
    → (Err (refusal_by found) ≡ unless_older told s) × (keeps_link (refusal_by found) ≡ false)
older_wrong true told s found t is =
    let same : fault.Older told s.commit ≡ found = cc in (
      sym (ap (λ (f : Fault). Err (refusal_by f)) same)
          ∙ sym (ap (λ (b : Bool). if b then Err (refusal_by (fault.Older told s.commit)) else s.answer) t),
      sym (ap (λ (f : Fault). keeps_link (refusal_by f)) same),
    )
older_wrong false told s found t is = cc

wrong_at : (told : ℕ) (m : Message) (s : Option Said) (found : Fault) → Facts m s → commit_fault told m (commit_of m) ≡ Some found
    → (Err (refusal_by found) ≡ answer_to told m s) × (keeps_link (refusal_by found) ≡ false)
wrong_at told m None found f is =
    let at : commit_fault told m None ≡ Some found = subst (λ (c : Option ℕ). commit_fault told m c ≡ Some found) f is in
    let same : fault.Operation (number_of (operation m)) ≡ found = cc in (
      sym (ap (λ (f : Fault). Err (refusal_by f)) same),
      sym (ap (λ (f : Fault). keeps_link (refusal_by f)) same),
    )
wrong_at told m (Some s) found f is =
    older_wrong (nat_lt s.commit told) told s found refl (subst (λ (c : Option ℕ). commit_fault told m c ≡ Some found) f.0 is)

abbrev numbered : Bool → ℕ → ℕ → Framed → Option Fault
numbered same sequence told framed =
    if same then commit_fault told framed.message (commit_of framed.message) else Some (fault.Sequence sequence framed.sequence)

abbrev answered : Bool → ℕ → ℕ → Framed → Result Checked ClientRefusal
answered same sequence told framed =
    if same then answer_to told framed.message (said framed.message) else Err (refusal_by (fault.Sequence sequence framed.sequence))

right_number : (same : Bool) (sequence told : ℕ) (framed : Framed) → numbered same sequence told framed ≡ None
    → answer_in framed.message (said framed.message) ≡ answered same sequence told framed
right_number true sequence told framed is = right_at told framed.message (said framed.message) (facts framed.message) is
right_number false sequence told framed is = cc

-- a right reply is the answer
pub right : (sequence told : ℕ) (framed : Framed) → fault_in sequence told framed ≡ None
    → answer_in framed.message (said framed.message) ≡ reply_of sequence told framed
right sequence told framed is = right_number (framed.sequence == sequence) sequence told framed is

wrong_number : (same : Bool) (sequence told : ℕ) (framed : Framed) (found : Fault) → numbered same sequence told framed ≡ Some found
    → (Err (refusal_by found) ≡ answered same sequence told framed) × (keeps_link (refusal_by found) ≡ false)
wrong_number true sequence told framed found is = wrong_at told framed.message (said framed.message) found (facts framed.message) is
wrong_number false sequence told framed found is =
    let same : fault.Sequence sequence framed.sequence ≡ found = cc in (
      sym (ap (λ (f : Fault). Err (refusal_by f)) same),
      sym (ap (λ (f : Fault). keeps_link (refusal_by f)) same),
    )

-- a wrong one is a refusal, after which the client keeps no link
pub wrong : (sequence told : ℕ) (framed : Framed) (found : Fault) → fault_in sequence told framed ≡ Some found
    → (Err (refusal_by found) ≡ reply_of sequence told framed) × (keeps_link (refusal_by found) ≡ false)
wrong sequence told framed found is = wrong_number (framed.sequence == sequence) sequence told framed found is

-- what is no frame
pub no_frame : (refused : WireRefusal) → refusal_by (fault_by refused) ≡ refusal_of refused
no_frame (wire.Memory error) = refl
no_frame other = refl

-- ---- what is kept

module _ {N L : Type 0} (link_faults : L → ℕ) (marks : L → LinkMarks) (faults dials : N → ℕ) (given_back : N → Option (List L)) where
  ends_with : (asked : Asked) (answer : Result Checked ClientRefusal) (old new : State N L) → IsRight answer
      → is_kept (verdict_in answer) asked old.cache new.cache → new ≡ record old { cache = new.cache }
      → Ends link_faults marks faults dials given_back asked answer old new
  ends_with asked (Ok (Judged verdict)) old new right kept same = (same, kept)
  ends_with asked (Ok (FromAgent commit kind number allowed)) old new right kept same = (same, kept)
  ends_with asked (Err refused) old new right kept same =
      subst (λ (b : Bool). MatchBool b (new ≡ old) (Leaves link_faults marks faults dials given_back old new)) (sym right)
      (same ∙ ap (λ (c : Cache). record old { cache = c }) kept)

  ends_at : (asked : Asked) (m : Message) (s : Option Said) (told : ℕ) → Facts m s → commit_fault told m (commit_of m) ≡ None
      → (old new : State N L) → is_kept (verdict_of m) asked old.cache new.cache → new ≡ record old { cache = new.cache }
      → Ends link_faults marks faults dials given_back asked (answer_in m s) old new
  ends_at asked m None told f is old new kept same =
      let at : commit_fault told m None ≡ None = subst (λ (c : Option ℕ). commit_fault told m c ≡ None) f is in
      cc
  ends_at asked m (Some s) told f is old new kept same =
      ends_with asked s.answer old new f.2 (subst (λ (v : Option Verdict). is_kept v asked old.cache new.cache) f.1 kept) same

  ends_number : (same : Bool) (asked : Asked) (sequence told : ℕ) (framed : Framed) → numbered same sequence told framed ≡ None
      → (old new : State N L) → KeepsOf asked framed.message old.cache new.cache → new ≡ record old { cache = new.cache }
      → Ends link_faults marks faults dials given_back asked (answer_in framed.message (said framed.message)) old new
  ends_number true asked sequence told framed is old new kept same =
      ends_at asked framed.message (said framed.message) told (facts framed.message) is old new kept same
  ends_number false asked sequence told framed is old new kept same = cc

  -- what a right reply leaves
  pub ends : (asked : Asked) (sequence told : ℕ) (framed : Framed) → fault_in sequence told framed ≡ None
      → (old new : State N L) → KeepsOf asked framed.message old.cache new.cache → new ≡ record old { cache = new.cache }
      → Ends link_faults marks faults dials given_back asked (answer_in framed.message (said framed.message)) old new
  ends asked sequence told framed is old new kept same =
      ends_number (framed.sequence == sequence) asked sequence told framed is old new kept same
