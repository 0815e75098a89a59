-- How often the dialler failed by the end of a run.
use Rattle.std.proofs.Common.{◌≡◌, ◌≤◌, ◌<◌, ◌⊎◌, inl, inr, ℕ, zero, suc, Bool, true, false, cond, eqb, ltb, List, length, Option, None, Result, Ok, Err, refl, sym, ap, ◌∙◌, subst, arith}
use Rattle.desk_ports.specs.Faults.{next_count}
use Rattle.link_ports.specs.Traffic.{Traffic}
use Rattle.link_ports.specs.LinkMarks.{LinkMarks}
use Rattle.link_ports.specs.NetCounts.{gave_trouble, count_after_give_back}
use Rattle.wire_fields.specs.declared.messages.Framed.{Framed}
use Rattle.wire_fields.specs.declared.messages.Message.{Message}
use Rattle.wire_fields.specs.declared.refusals.WireRefusal.{WireRefusal}
use Rattle.wire_fields.specs.declared.refusals.WireRefusal.TheVariants.{Memory as NoMemory}
use Rattle.client_connection.specs.Asking.{counted, Asks}
use Rattle.client_connection.specs.Giving.{GivesBackAny}
use Rattle.client_connection.specs.declared.asking.Outcome.{Outcome}
use Rattle.client_connection.specs.declared.asking.Outcome.TheVariants as outcome
use Rattle.run_endings.specs.Saying.{Said}
use Rattle.run_endings.specs.declared.endings.Ending.{Ending}
use Rattle.run_endings.specs.declared.endings.Ending.TheVariants.{Net}
use Rattle.cynara_client.specs.Reply.{said, answer_to, reply_of, refusal_of}
use Rattle.client_runs.specs.AskedOnce.{AsksOnce, answer_of, link_of}
use Rattle.cynara_client.specs.declared.refusals.Checked.{Checked}
use Rattle.cynara_client.specs.declared.refusals.ClientRefusal.{ClientRefusal}
use Rattle.cynara_client.specs.declared.refusals.ClientRefusal.TheVariants as refusal
use Rattle.client_runs.specs.AnswerLine.{Says}
use Rattle.client_runs.specs.CheckRun.{IsCounted}

-- ---- only where no reply came is the service out of reach

abbrev pub IsReached : Result Checked ClientRefusal → Type 0
IsReached (Err refusal.Unavailable) = ⊥
IsReached answer = Unit {0}

either : (b : Bool) (x y : Result Checked ClientRefusal) → IsReached x → IsReached y → IsReached (cond b x y)
either true x y first second = first
either false x y first second = second

said_reached : (message : Message) → IsReached (answer_to 0 message (said message))
said_reached (Message.Judged verdict) = either (ltb verdict.commit 0) _ _ tt tt
said_reached (Message.FromAgent commit kind number allowed) = either (ltb commit 0) _ _ tt tt
said_reached (Message.NotResolved commit kind) = either (ltb commit 0) _ _ tt tt
said_reached (Message.NoAgent commit kind) = either (ltb commit 0) _ _ tt tt
said_reached (Message.AgentGone commit number) = either (ltb commit 0) _ _ tt tt
said_reached (Message.AgentFull commit kind most) = either (ltb commit 0) _ _ tt tt
said_reached message = tt

pub reply_reached : (framed : Framed) → IsReached (reply_of 0 0 framed)
reply_reached framed = either (eqb framed.sequence 0) _ _ (said_reached framed.message) tt

pub refusal_reached : (fault : WireRefusal) → IsReached (Err (refusal_of fault))
refusal_reached (NoMemory error) = tt
refusal_reached fault = tt

not_reached : (answer : Result Checked ClientRefusal) → answer ≡ Err refusal.Unavailable → IsReached answer → ⊥
not_reached answer is reached = subst IsReached is reached

-- a run ends so only where the service was out of reach
is_unavailable : (answer : Result Checked ClientRefusal) (said : Said) → Says answer said Net → answer ≡ Err refusal.Unavailable
is_unavailable (Ok checked) said says = absurd says
is_unavailable (Err (refusal.NotResolved commit kind)) said says = absurd says
is_unavailable (Err (refusal.NoAgent commit kind)) said says = absurd says
is_unavailable (Err (refusal.AgentGone commit number)) said says = absurd says
is_unavailable (Err (refusal.AgentFull commit kind most)) said says = absurd says
is_unavailable (Err refusal.Unavailable) said says = refl
is_unavailable (Err (refusal.Older told got)) said says = let is = says.0 in cc
is_unavailable (Err (refusal.BadReply fault)) said says = let is = says.0 in cc
is_unavailable (Err (refusal.Memory error)) said says = let is = says.0 in cc

-- ---- counts

abbrev Rises : ℕ → ℕ → Type 0
Rises before after = (rise : ℕ) × (rise ≤ 3) × (after ≡ counted rise before)

by_trouble : (b : Bool) (count : ℕ) → (cond b (next_count count) count ≡ count) ⊎ (cond b (next_count count) count ≡ next_count count)
by_trouble true count = inr refl
by_trouble false count = inl refl

-- giving a link back counts one failure, or none
pub left_faults : (marks : LinkMarks) (faults count : ℕ)
    → (count_after_give_back marks faults count ≡ count) ⊎ (count_after_give_back marks faults count ≡ next_count count)
left_faults marks faults count = by_trouble (gave_trouble marks faults) count

-- one failure more
pub counted-more : (n count : ℕ) → next_count (counted n count) ≡ counted (suc n) count
counted-more zero count = refl
counted-more (suc n) count = counted-more n (next_count count)

-- a link was given back behind fewer than three failures
rises-back : (n before between after : ℕ) → n < 3 → between ≡ counted n before → (after ≡ between) ⊎ (after ≡ next_count between)
    → Rises before after
rises-back n before between after few is (inl same) = (n, omega (arith, few), same ∙ is)
rises-back n before between after few is (inr next) =
    (suc n, omega (arith, few), next ∙ (ap next_count is ∙ counted-more n before))

module _ {N L : Type 0} (link_faults : L → ℕ) (marks : L → LinkMarks) (traffic : L → Option Traffic)
    (faults dials : N → ℕ) (given_back : N → Option (List L)) (frame : List ℕ) (before between after : N) where
  abbrev Sent : Outcome L → Type 0
  Sent came_of = Asks link_faults marks traffic frame faults dials given_back 3 false None came_of before between

  abbrev Given : Outcome L → Type 0
  Given came_of = GivesBackAny faults dials given_back link_faults marks (link_of came_of) between after

  rises : (came_of : Outcome L) → Sent came_of → Given came_of → Rises (faults before) (faults after)
  rises (outcome.Replied link is_new framed) sent given =
      rises-back (length sent.lost) (faults before) (faults between) (faults after) sent.came.0 sent.came.1.loses.counted_each
      (subst (λ count. (count ≡ faults between) ⊎ (count ≡ next_count (faults between))) (sym given.counted)
      (left_faults (marks link) (link_faults link) (faults between)))
  rises (outcome.Wrong fault) sent given =
      let wrong = sent.came.1 in
      rises-back (length sent.lost) (faults before) (counted (length sent.lost) (faults before)) (faults after) sent.came.0 refl
      (subst (λ count. (count ≡ counted (length sent.lost) (faults before)) ⊎ (count ≡ next_count (counted (length sent.lost) (faults before))))
      (sym (ap faults given ∙ wrong.counted_each))
      (left_faults (marks wrong.link) (link_faults wrong.link) (counted (length sent.lost) (faults before))))
  rises (outcome.Unavailable is_tried) sent given =
      (length sent.lost, (let all = sent.came.0 in omega (arith, all)), ap faults given ∙ sent.came.2.counted_each)
  rises (outcome.Memory error is_tried) sent given =
      (length sent.lost, (let few = sent.came.0 in omega (arith, few)), ap faults given ∙ sent.came.3.counted_each)

  -- the service was out of reach
  rises-all : (came_of : Outcome L) → Sent came_of → Given came_of → answer_of came_of ≡ Err refusal.Unavailable
      → faults after ≡ counted 3 (faults before)
  rises-all (outcome.Replied link is_new framed) sent given is = absurd (not_reached (reply_of 0 0 framed) is (reply_reached framed))
  rises-all (outcome.Wrong fault) sent given is = absurd (not_reached (Err (refusal_of fault)) is (refusal_reached fault))
  rises-all (outcome.Unavailable is_tried) sent given is =
      ap faults given ∙ (sent.came.2.counted_each ∙ ap (λ n. counted n (faults before)) sent.came.0)
  rises-all (outcome.Memory error is_tried) sent given is = cc

by_ending : (ending : Ending) (before after : ℕ) → Rises before after → (ending ≡ Net → after ≡ counted 3 before)
    → IsCounted ending before after
by_ending Net before after some all = all refl
by_ending ending before after some all = some

pub counts : {N L : Type 0} (link_faults : L → ℕ) (marks : L → LinkMarks) (traffic : L → Option Traffic)
    (faults dials : N → ℕ) (given_back : N → Option (List L)) (frame : List ℕ) (before after : N)
    (answer : Result Checked ClientRefusal) (said : Said) (ending : Ending)
    → AsksOnce link_faults marks traffic faults dials given_back frame answer before after → Says answer said ending
    → IsCounted ending (faults before) (faults after)
counts link_faults marks traffic faults dials given_back frame before after answer said ending (inl once) says =
    by_ending ending (faults before) (faults after)
    (rises link_faults marks traffic faults dials given_back frame before once.between after once.came_of once.sent once.given)
    (λ net. rises-all link_faults marks traffic faults dials given_back frame before once.between after once.came_of once.sent once.given
    (sym once.answer_is ∙ is_unavailable answer said (subst (Says answer said) net says)))
counts link_faults marks traffic faults dials given_back frame before after answer said ending (inr none) says =
    by_ending ending (faults before) (faults after) (0, omega arith, ap faults none.same)
    (λ net. absurd (not_reached answer (is_unavailable answer said (subst (Says answer said) net says))
    (subst IsReached (sym none.answer_is) tt)))
