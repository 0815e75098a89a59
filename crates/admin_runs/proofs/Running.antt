-- A whole run, from its script and from what gave the link back.
use Rattle.std.proofs.Common.{◌≡◌, ℕ, List, Option, None, subst}
use Rattle.link_ports.specs.Traffic.{Traffic}
use Rattle.link_ports.specs.LinkMarks.{LinkMarks}
use Rattle.client_connection.specs.Giving.{GivesBackAny}
use Rattle.admin_client.specs.Sending.{Kept, with_dial}
use Rattle.run_endings.specs.Outside.{SourceSeen, SinkSeen}
use Rattle.run_endings.specs.Saying.{Said, WritesAnswers}
use Rattle.run_endings.specs.declared.endings.Ending.{Ending}
use Rattle.admin_runs.specs.AdminRun.{RunsAdmin, IsCounted}
use Rattle.admin_runs.specs.parts.Talk.{Talks}
use Rattle.admin_runs.specs.parts.Script.{SendsAll}
use Rattle.admin_runs.proofs.Counting.{counts}

module _ {N L : Type 0} (link_faults : L → ℕ) (marks : L → LinkMarks) (traffic : L → Option Traffic)
    (faults dials : N → ℕ) (given_back : N → Option (List L)) (ending : Ending) (source source_after : SourceSeen)
    (sink sink_after : SinkSeen) (before between after : N) (first last : Kept L) where
  abbrev pub Sent : Kept L → Type 0
  Sent first =
      SendsAll (Talks link_faults marks traffic faults dials given_back (with_dial before first)
      (with_dial between last) sink sink_after)
      source.left source_after.left ending

  module _ (sent : Sent first) (is_first : first ≡ record { link = None; sequence = 0 })
      (given : GivesBackAny faults dials given_back link_faults marks last.link between after) where
    begun : Sent (record { link = None; sequence = 0 })
    begun = subst (λ (first : Kept L). Sent first) is_first sent

    pub runs : (said : Said) × RunsAdmin link_faults marks traffic faults dials given_back said ending source source_after before after
        × WritesAnswers ending said sink sink_after
    runs =
        let talks = begun.talks in (
          talks.said,
          record {
            client = with_dial between last;
            script = record {
              input = begun.input;
              rest = begun.rest;
              steps = begun.steps;
              answered = talks.answered;
              last = talks.last;
              between = talks.between;
              had = begun.had;
              read = begun.read;
              sent = talks.sent;
              exchanged = talks.exchanged;
              ends = talks.ends;
              due = talks.due;
              in_turn = talks.in_turn;
            };
            given = given;
          },
          talks.writes,
        )

    pub runs_count : IsCounted ending (faults before) (faults after)
    runs_count =
        let talks = sent.talks in
        counts link_faults marks traffic faults dials given_back talks.answered (with_dial before first) talks.between
        (with_dial between last) after talks.exchanged given ending talks.last talks.ends
