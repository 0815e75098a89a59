-- A run of which no call of the sink fails: what its ending tells of its answers, and of the dialler's count.
use Rattle.std.proofs.Common.{◌≡◌, ◌∙◌, ◌⊎◌, inl, inr, ℕ, Bool, true, false, List, [], ◌∷◌, ◌++◌, refl, sym, ap, subst, append-nil, arith}
use Rattle.desk_ports.specs.Faults.{next_count}
use Rattle.desk_ports.specs.Content.{Appended}
use Rattle.cynara_keys.specs.declared.results.Kind.{Kind}
use Rattle.link_ports.specs.LinkMarks.{fresh_marks}
use Rattle.link_ports.specs.NetCounts.{count_after_give_back}
use Rattle.line_answers.specs.Answers.{taken_text}
use Rattle.wire_fields.specs.declared.messages.Framed.{Framed}
use Rattle.wire_fields.specs.declared.messages.Message.{Message}
use Rattle.wire_fields.specs.declared.messages.Message.TheVariants.{KindTaken}
use Rattle.run_endings.specs.Ending.{net_faults_after, Unraised, IsUnfailed}
use Rattle.run_endings.specs.Outside.{SinkSeen}
use Rattle.run_endings.specs.Saying.{Said, AreWritten}
use Rattle.run_endings.specs.declared.endings.Ending.{Ending}
use Rattle.run_endings.specs.declared.endings.Ending.TheVariants.{Done, Memory, Sink, Net, Reply}
use Rattle.agent_runs.specs.LinkSeen.{DialSeen, with_end}
use Rattle.agent_runs.specs.AgentTalk.{line_for, lines, IsRefused, GoesOn, IsTaken, Talks, IsSilent}
use Rattle.agent_runs.specs.AgentRun.{Undialled, Dialled, RunsAgent, CompletesAgent}
use Rattle.agent_runs.proofs.Dialling.{Runs}

-- ---- lines

line_taken : (message : Message) → IsRefused message → (kind : Kind) × (line_for message ≡ taken_text kind.0)
line_taken (KindTaken kind) refused = (kind, refl)
line_taken message refused = absurd refused

lines_taken : (messages : List Framed) → IsTaken messages → (kind : Kind) × (lines messages ≡ taken_text kind.0)
lines_taken [] taken = absurd taken
lines_taken (first ∷ others) taken =
    let one = line_taken first.message taken.0 in
    (one.0, ap (λ others. line_for first.message ++ lines others) taken.1 ∙ (append-nil (line_for first.message) ∙ one.1))

-- ---- the dialler's count

-- Once a link of a run that ended so was given back to it. Whether the end of the input was found.
abbrev counted : Ending → Bool → ℕ → ℕ
counted ending found count = count_after_give_back (with_end found fresh_marks) (net_faults_after ending 0) count

module _ (kind : Kind) (allowed : Bool) (said : Said) (before after : DialSeen) where
  given_back : (ending : Ending) (d : Dialled kind allowed said ending before after)
      → after.faults ≡ counted ending d.served.found before.faults
  given_back ending d =
      d.faults
      ∙ (λ i. count_after_give_back ((d.served.carried.marks ∙ ap (with_end d.served.found) d.unmarked) i)
      ((d.served.faults ∙ ap (net_faults_after ending) d.unfailed) i) before.faults)

  either : (found : Bool) → after.faults ≡ counted Reply found before.faults
      → (after.faults ≡ before.faults) ⊎ (after.faults ≡ next_count before.faults)
  either true is = inr is
  either false is = inl is

  -- ---- by the ending

  abbrev Completes : Ending → Type 0
  Completes ending = CompletesAgent ending said.due before.faults after.faults

  all_due : (messages last : List Framed) → said.due ≡ lines (messages ++ last) → last ≡ [] → said.due ≡ lines messages
  all_due messages last due none = due ∙ (ap (λ last. lines (messages ++ last)) none ∙ ap lines (append-nil messages))

  done : (messages : List Framed) (found : Bool) → said.due ≡ lines messages
      → (GoesOn messages × (found ≡ true)) ⊎ (IsTaken messages × (found ≡ false)) → after.faults ≡ counted Done found before.faults
      → Completes Done
  done messages found due (inl (goes, ended)) is =
      inl ((messages, goes, due), is ∙ ap (λ (b : Bool). counted Done b before.faults) ended)
  done messages found due (inr (taken, going)) is =
      let line = lines_taken messages taken in
      inr (line.0, due ∙ line.1, is ∙ ap (λ (b : Bool). counted Done b before.faults) going)

  talked : (ending : Ending) (sent received : List ℕ) (found : Bool) → (ending ≡ Sink → ⊥)
      → Talks kind allowed ending said sent received found → after.faults ≡ counted ending found before.faults → Completes ending
  talked Done sent received found no_sink t is =
      done t.messages found (all_due t.messages t.last t.due t.ends.0) t.ends.2 is
  talked Reply sent received found no_sink t is =
      ((t.messages, t.ends.1, all_due t.messages t.last t.due t.ends.0), either found is)
  talked Net sent received found no_sink t is =
      ((t.messages ++ t.last, t.ends.0, t.due), is ∙ ap (λ (b : Bool). counted Net b before.faults) t.ends.3)
  talked Memory sent received found no_sink t is = is ∙ ap (λ (b : Bool). counted Memory b before.faults) t.ends.2
  talked Sink sent received found no_sink t is = absurd (no_sink refl)
  talked ending sent received found no_sink t is = absurd t.ends

  silent : (ending : Ending) (sent received : List ℕ) (found : Bool) → IsSilent ending said sent received found
      → after.faults ≡ counted ending found before.faults → Completes ending
  silent Net sent received found s is =
      (([], tt, ap (λ (one : Said). one.due) s.said_is), is ∙ ap (λ (b : Bool). counted Net b before.faults) s.nothing.2)
  silent Memory sent received found s is = is ∙ ap (λ (b : Bool). counted Memory b before.faults) s.nothing.2
  silent ending sent received found s is = absurd s.unregistered

  undialled : (ending : Ending) → Undialled said ending before after → Completes ending
  undialled Net u = (([], tt, ap (λ (one : Said). one.due) u.said_is), u.fails)
  undialled Memory u = u.fails
  undialled ending u = absurd u.fails

  served : (ending : Ending) → (ending ≡ Sink → ⊥) → (d : Dialled kind allowed said ending before after)
      → Talks kind allowed ending said d.served.sent d.served.received d.served.found
      ⊎ IsSilent ending said d.served.sent d.served.received d.served.found
      → Completes ending
  served ending no_sink d (inl t) =
      talked ending d.served.sent d.served.received d.served.found no_sink t (given_back ending d)
  served ending no_sink d (inr s) = silent ending d.served.sent d.served.received d.served.found s (given_back ending d)

  ran : (ending : Ending) → (ending ≡ Sink → ⊥) → RunsAgent kind allowed said ending before after → Completes ending
  ran ending no_sink (inl u) = undialled ending u
  ran ending no_sink (inr d) = served ending no_sink d d.served.talked

-- what is due of a run that no failing call of the source, of the sink or of the disk stopped
pub completes-agent : (kind : Kind) (allowed : Bool) (said : Said) (ending : Ending) (before after : DialSeen) → IsUnfailed ending
    → RunsAgent kind allowed said ending before after → CompletesAgent ending said.due before.faults after.faults
completes-agent kind allowed said ending before after unfailed runs =
    ran kind allowed said before after ending (λ is. subst IsUnfailed is unfailed) runs

-- ---- all is written

raised : (before after : ℕ) → Unraised before after → after ≡ next_count before → ⊥
raised before after (below, same) risen = omega (arith, below, same, risen)

no_failure : (ending : Ending) (faults after : ℕ) (said : Said) → AreWritten ending faults after said → Unraised faults after
    → ending ≡ Sink → ⊥
no_failure Sink faults after said written still is = raised faults after still written.0
no_failure ending faults after said written still is = cc

all_written : (ending : Ending) (faults after : ℕ) (said : Said) → AreWritten ending faults after said → Unraised faults after
    → said.written ≡ said.due
all_written Memory faults after said (inl (same, whole)) still = whole
all_written Memory faults after said (inr (risen, cut)) still = absurd (raised faults after still risen)
all_written Sink faults after said written still = absurd (raised faults after still written.0)
all_written ending faults after said written still = written.1

pub completes : {kind : Kind} {allowed : Bool} {ending : Ending} {before after : DialSeen} {sink sink_after : SinkSeen}
    → Runs kind allowed ending before after sink sink_after → Unraised sink.faults sink_after.faults
    → (answers : List ℕ) × Appended sink.taken answers sink_after.taken × CompletesAgent ending answers before.faults after.faults
completes {kind = kind} {allowed = allowed} {ending = ending} {before = before} {after = after} {sink = sink} {sink_after = sink_after}
    (said, runs, writes) still = (
      said.written,
      writes.taken,
      subst (λ (answers : List ℕ). CompletesAgent ending answers before.faults after.faults)
          (sym (all_written ending sink.faults sink_after.faults said writes.are_written still))
          (ran kind allowed said before after ending (no_failure ending sink.faults sink_after.faults said writes.are_written still) runs),
    )
