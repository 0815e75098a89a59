-- How often the dialler failed by the end of a run.
use Rattle.std.proofs.Common.{◌≡◌, inl, inr, ℕ, Bool, true, false, cond, List, [], ◌∷◌, Option, Some, None, Result, Ok}
use Rattle.std.proofs.Common.{Err, refl, sym, ap, ◌∙◌, subst}
use Rattle.desk_ports.specs.Faults.{next_count}
use Rattle.desk_ports.specs.PortFault.{count_after_refusal}
use Rattle.desk_ports.specs.declared.port_faults.PortFault.{PortFault}
use Rattle.desk_ports.specs.declared.port_faults.PortFault.TheVariants as fault
use Rattle.link_ports.specs.Traffic.{Traffic}
use Rattle.link_ports.specs.LinkMarks.{LinkMarks}
use Rattle.link_ports.specs.NetCounts.{gave_trouble, MayCountFailure}
use Rattle.wire_fields.specs.declared.messages.Message.{Message}
use Rattle.client_connection.specs.Giving.{GivesBackAny}
use Rattle.admin_client.specs.Sending.{State, Sends, refusal_by}
use Rattle.admin_client.specs.declared.refusals.AdminRefusal.{AdminRefusal}
use Rattle.admin_client.specs.declared.refusals.AdminRefusal.TheVariants as refusal
use Rattle.run_endings.specs.declared.endings.Ending.{Ending}
use Rattle.run_endings.specs.declared.endings.Ending.TheVariants.{Done, Memory, Words, Line, Source, Sink, Disk, Net}
use Rattle.run_endings.specs.declared.endings.Ending.TheVariants.{Damaged, Reply, TooLong}
use Rattle.admin_runs.specs.AdminRun.{Exchange, ending_of, AreExchanged, EndsSending, IsUnanswered, IsCounted}

by_trouble : (b : Bool) (count : ℕ) → MayCountFailure count (cond b (next_count count) count)
by_trouble true count = inr refl
by_trouble false count = inl refl

-- one count behind another that stayed
then_may : (first between last : ℕ) → between ≡ first → MayCountFailure between last → MayCountFailure first last
then_may first between last same may = subst (λ count. MayCountFailure count last) same may

-- one count before another that stays
may_then : (first between last : ℕ) → last ≡ between → MayCountFailure first between → MayCountFailure first last
may_then first between last same may = subst (λ count. MayCountFailure first count) (sym same) may

is_unavailable : (why : AdminRefusal) → Net ≡ ending_of why → why ≡ refusal.Unavailable
is_unavailable refusal.Unavailable is = refl
is_unavailable (refusal.BadReply fault) is = cc
is_unavailable (refusal.TooLong size) is = cc
is_unavailable (refusal.Memory error) is = cc

module _ {N L : Type 0} (link_faults : L → ℕ) (marks : L → LinkMarks) (traffic : L → Option Traffic)
    (faults dials : N → ℕ) (given_back : N → Option (List L)) where
  abbrev Once : Message → Result (List Message) AdminRefusal → State N L → State N L → Type 0
  Once message result old new = Sends link_faults marks traffic faults dials given_back message result old new

  abbrev Given : Option L → N → N → Type 0
  Given link old new = GivesBackAny faults dials given_back link_faults marks link old new

  -- giving a link back counts one failure, or none
  given_may : (link : Option L) (old new : N) → Given link old new → MayCountFailure (faults old) (faults new)
  given_may None old new given = inl (ap faults given)
  given_may (Some link) old new given =
      subst (λ count. MayCountFailure (faults old) count) (sym given.counted)
      (by_trouble (gave_trouble (marks link) (link_faults link)) (faults old))

  -- where no link is left there is nothing to give back
  given_none : (link : Option L) (old new : N) → link ≡ None → Given link old new → new ≡ old
  given_none link old new none given = subst (λ (link : Option L). Given link old new) none given

  -- a message that is answered counts none
  answered_counts : (message : Message) (replies : List Message) (old new : State N L)
      → Once message (Ok replies) old new
      → faults new.dial ≡ faults old.dial
  answered_counts message replies old new sent =
      elim sent [
        | Sends.too_long h ↦ let is = h.is in cc
        | Sends.no_room h ↦ let is = h.is in cc
        | Sends.no_dial fits h ↦ let is = h.is in cc
        | Sends.talks fits h ↦ ap faults h.ends.1 ∙ h.begins.counted
      ]

  all_answered : (exchanges : List Exchange) (old new : State N L)
      → AreExchanged link_faults marks traffic faults dials given_back exchanges old new
      → faults new.dial ≡ faults old.dial
  all_answered [] old new same = ap (λ (state : State N L). faults state.dial) same
  all_answered (exchange ∷ exchanges) old new are =
      all_answered exchanges are.0 new are.2 ∙ answered_counts exchange.message exchange.replies old are.0 are.1

  -- one that is not counts one at most, with the link that is given back behind it
  refused_may : (message : Message) (why : AdminRefusal) (old new : State N L) (after : N)
      → Once message (Err why) old new
      → Given new.link new.dial after → MayCountFailure (faults old.dial) (faults after)
  refused_may message why old new after sent given =
      elim sent [
        | Sends.too_long h ↦
            then_may (faults old.dial) (faults new.dial) (faults after)
            (ap (λ (state : State N L). faults state.dial) h.same)
            (given_may new.link new.dial after given)
        | Sends.no_room h ↦
            may_then (faults old.dial) (faults new.dial) (faults after)
            (ap faults (given_none new.link new.dial after h.link given))
            (given_may old.link old.dial new.dial h.gives)
        | Sends.no_dial fits h ↦
            let none : new.link ≡ None = ap (λ (state : State N L). state.link) h.same ∙ h.refused.was in
            may_then (faults old.dial) (faults new.dial) (faults after)
            (ap faults (given_none new.link new.dial after none given))
            (subst (λ count. MayCountFailure (faults old.dial) count) (sym h.refused.counted)
            (by_fault h.fault (faults old.dial)))
        | Sends.talks fits h ↦
            may_then (faults old.dial) (faults new.dial) (faults after)
            (ap faults (given_none new.link new.dial after h.ends.0 given))
            (then_may (faults old.dial) (faults h.dial) (faults new.dial) h.begins.counted
            (given_may (Some h.link) h.dial new.dial h.ends.1.gives))
      ]
    where
      by_fault : (fault : PortFault) (count : ℕ) → MayCountFailure count (count_after_refusal fault count)
      by_fault fault.Failed count = inr refl
      by_fault (fault.Memory error) count = inl refl

  abbrev lost : Result (List Message) AdminRefusal
  lost = Err refusal.Unavailable

  -- the service was out of reach
  lost_counts : (message : Message) (old new : State N L) (after : N) → Once message (Err refusal.Unavailable) old new
      → Given new.link new.dial after → faults after ≡ next_count (faults old.dial)
  lost_counts message old new after sent given =
      elim sent [
        | Sends.too_long h ↦ let is = h.is in cc
        | Sends.no_room h ↦ let is = h.is in cc
        | Sends.no_dial fits h ↦
            let none : new.link ≡ None = ap (λ (state : State N L). state.link) h.same ∙ h.refused.was in
            ap faults (given_none new.link new.dial after none given)
            ∙ (h.refused.counted ∙ by_fault h.fault (faults old.dial) h.is)
        | Sends.talks fits h ↦
            ap faults (given_none new.link new.dial after h.ends.0 given)
            ∙ (h.ends.1.counted ∙ ap next_count h.begins.counted)
      ]
    where
      by_fault : (fault : PortFault) (count : ℕ) → lost ≡ Err (refusal_by fault)
          → count_after_refusal fault count ≡ next_count count
      by_fault fault.Failed count is = refl
      by_fault (fault.Memory error) count is = cc

  module _ (answered : List Exchange) (first between client : State N L) (after : N)
      (are : AreExchanged link_faults marks traffic faults dials given_back answered first between)
      (given : Given client.link client.dial after) where
    abbrev before : ℕ
    before = faults first.dial

    over : (Fact : ℕ → Type 0) → Fact (faults between.dial) → Fact before
    over Fact fact = subst Fact (all_answered answered first between are) fact

    quiet : client ≡ between → MayCountFailure before (faults after)
    quiet same =
        over (λ count. MayCountFailure count (faults after))
        (then_may (faults between.dial) (faults client.dial) (faults after)
        (ap (λ (state : State N L). faults state.dial) same)
        (given_may client.link client.dial after given))

    unanswered : (ending : Ending) (last : List Message)
        → IsUnanswered link_faults marks traffic faults dials given_back ending last between client
        → MayCountFailure before (faults after)
    unanswered ending last none =
        over (λ count. MayCountFailure count (faults after))
        (refused_may none.message none.why between client after none.sent given)

    pub counts : (ending : Ending) (last : List Message)
        → EndsSending link_faults marks traffic faults dials given_back ending last between client
        → IsCounted ending before (faults after)
    counts Net last none =
        over (λ count. faults after ≡ next_count count)
        (lost_counts none.message between client after
        (subst (λ why. Once none.message (Err why) between client)
        (is_unavailable none.why none.ending_is) none.sent) given)
    counts Done last none = quiet none.1
    counts (Line number) last none = quiet none.1
    counts Source last none = quiet none.1
    counts Sink last none = quiet none.1
    counts Memory last (inl none) = unanswered Memory last none
    counts Memory last (inr (inl unsaid)) =
        then_may before (faults client.dial) (faults after)
        (answered_counts unsaid.message unsaid.replies between client unsaid.sent ∙ all_answered answered first between are)
        (given_may client.link client.dial after given)
    counts Memory last (inr (inr none)) = quiet none.1
    counts Words last none = unanswered Words last none
    counts Disk last none = unanswered Disk last none
    counts (Damaged file line) last none = unanswered (Damaged file line) last none
    counts Reply last none = unanswered Reply last none
    counts (TooLong size) last none = unanswered (TooLong size) last none
