-- A run of `admin` that no failing call stops.
use Rattle.std.proofs.Common.{◌≡◌, ◌<◌, ℕ, List, Option, None, Result, Ok, Err, refl, sym, subst, arith}
use Rattle.desk_ports.specs.Faults.{next_count, last_count}
use Rattle.link_ports.specs.Traffic.{Traffic}
use Rattle.link_ports.specs.LinkMarks.{LinkMarks}
use Rattle.wire_fields.specs.declared.messages.Message.{Message}
use Rattle.client_connection.specs.Giving.{GivesBackAny}
use Rattle.client_connection.specs.declared.faults.ReplyFault.{ReplyFault}
use Rattle.admin_client.specs.Sending.{State}
use Rattle.admin_client.specs.declared.refusals.AdminRefusal.{AdminRefusal}
use Rattle.admin_client.specs.declared.refusals.AdminRefusal.TheVariants as refusal
use Rattle.run_endings.specs.Ending.{source_faults_after, Unraised}
use Rattle.run_endings.specs.Outside.{SourceSeen, SinkSeen}
use Rattle.run_endings.specs.Saying.{Said, WritesAnswers}
use Rattle.run_endings.specs.declared.endings.Ending.{Ending}
use Rattle.run_endings.specs.declared.endings.Ending.TheVariants.{Done, Memory, Line, Source, Sink, Net, Reply, TooLong}
use Rattle.script_replies.specs.NextLine.{counts_source}
use Rattle.admin_runs.specs.parts.Talk.{ending_by}
use Rattle.admin_runs.specs.AdminRun.{ending_of, SendsOnce, IsUnanswered, HasNoAnswer, EndsUnfailed, SendsScript, RunsAdmin, CompletesAdmin}
use Rattle.admin_runs.proofs.Counting.{counts}

-- a count that rises is another one
moves : (before after : ℕ) → Unraised before after → after ≡ next_count before → ⊥
moves before after (below, same) risen = omega (arith, below, same, risen)

-- a run whose sink did not fail does not end for it
pub not-sink : (ending : Ending) (said : Said) (before after : SinkSeen) → WritesAnswers ending said before after
    → Unraised before.faults after.faults → ending ≡ Sink → ⊥
not-sink ending said before after writes still is =
    moves before.faults after.faults still
    (subst (λ (ending : Ending). WritesAnswers ending said before after) is writes).are_written.0

-- nor one whose source did not fail
pub not-source : (ending : Ending) (before after : ℕ) → after ≡ source_faults_after ending before → Unraised before after
    → ending ≡ Source → ⊥
not-source ending before after counted still is =
    moves before after still (subst (λ (ending : Ending). after ≡ source_faults_after ending before) is counted)

-- by how its script was sent
pub counted_by : {A : Type 0} (sent : Result A Ending) (ending : Ending) (before after : ℕ) → ending ≡ ending_by sent
    → after ≡ counts_source sent before → after ≡ source_faults_after ending before
counted_by (Ok value) ending before after is counted =
    subst (λ (ending : Ending). after ≡ source_faults_after ending before) (sym is) counted
counted_by (Err stop) ending before after is counted =
    subst (λ (ending : Ending). after ≡ source_faults_after ending before) (sym is) counted

is_bad : (why : AdminRefusal) → Reply ≡ ending_of why → (fault : ReplyFault) × (why ≡ refusal.BadReply fault)
is_bad refusal.Unavailable is = let wrong : ⊥ = cc in absurd wrong
is_bad (refusal.BadReply fault) is = (fault, refl)
is_bad (refusal.TooLong size) is = let wrong : ⊥ = cc in absurd wrong
is_bad (refusal.Memory error) is = let wrong : ⊥ = cc in absurd wrong

is_long : (size : ℕ) (why : AdminRefusal) → TooLong size ≡ ending_of why → why ≡ refusal.TooLong size
is_long size refusal.Unavailable is = cc
is_long size (refusal.BadReply fault) is = cc
is_long size (refusal.TooLong other) is = cc
is_long size (refusal.Memory error) is = cc

module _ {N L : Type 0} (link_faults : L → ℕ) (marks : L → LinkMarks) (traffic : L → Option Traffic)
    (faults dials : N → ℕ) (given_back : N → Option (List L)) where
  abbrev Unanswered : Ending → List Message → State N L → State N L → Type 0
  Unanswered ending last old new = IsUnanswered link_faults marks traffic faults dials given_back ending last old new

  abbrev Refused : AdminRefusal → List Message → State N L → State N L → Type 0
  Refused why last old new = HasNoAnswer link_faults marks traffic faults dials given_back why last old new

  refused_so : (ending : Ending) (why : AdminRefusal) (last : List Message) (old new : State N L)
      → (none : Unanswered ending last old new) → none.why ≡ why → Refused why last old new
  refused_so ending why last old new none is = (
    none.message,
    none.last_is,
    subst (λ (why : AdminRefusal). SendsOnce link_faults marks traffic faults dials given_back none.message (Err why) old new) is none.sent,
  )

  by_reply : (last : List Message) (old new : State N L) → Unanswered Reply last old new
      → (fault : ReplyFault) × Refused (refusal.BadReply fault) last old new
  by_reply last old new none =
      let (fault, is) = is_bad none.why none.ending_is in
      (fault, refused_so Reply (refusal.BadReply fault) last old new none is)

  module _ (said : Said) (source source_after : SourceSeen) (before after : N) (still : Unraised (faults before) (faults after)) where
    abbrev start : State N L
    start = record { dial = before; link = None; sequence = 0 }

    ends : (ending : Ending) (client : State N L)
        (script : SendsScript link_faults marks traffic faults dials given_back said ending source source_after start client)
        → GivesBackAny faults dials given_back link_faults marks client.link client.dial after
        → (ending ≡ Source → ⊥) → (ending ≡ Sink → ⊥)
        → EndsUnfailed link_faults marks traffic faults dials given_back ending script.input script.last script.between client
    ends Done client script given source sink = (script.read.right, script.ends)
    ends (Line number) client script given source sink = (script.read.wrong, script.ends)
    ends Memory client script given source sink = tt
    ends Source client script given source sink = absurd (source refl)
    ends Sink client script given source sink = absurd (sink refl)
    ends Net client script given source sink =
        absurd (moves (faults before) (faults after) still
        (counts link_faults marks traffic faults dials given_back script.answered start script.between client after script.exchanged given
        Net script.last script.ends))
    ends Reply client script given source sink = by_reply script.last script.between client script.ends
    ends (TooLong size) client script given source sink =
        refused_so (TooLong size) (refusal.TooLong size) script.last script.between client script.ends
        (is_long size script.ends.why script.ends.ending_is)
    ends ending client script given source sink = absurd script.read

    pub completes-admin : (ending : Ending)
        → RunsAdmin link_faults marks traffic faults dials given_back said ending source source_after before after
        → (ending ≡ Source → ⊥) → (ending ≡ Sink → ⊥)
        → CompletesAdmin link_faults marks traffic faults dials given_back said ending source source_after before after
    completes-admin ending run source sink = (run, ends ending run.client run.script run.given source sink)
