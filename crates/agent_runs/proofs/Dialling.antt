-- A run over a dialler: the dial failed, or the link was served and given back.
use Rattle.std.proofs.Common.{◌≡◌, Bool, inl, inr, refl, subst}
use Rattle.desk_ports.proofs.Appends.{Appended-none}
use Rattle.cynara_keys.specs.declared.results.Kind.{Kind}
use Rattle.link_ports.specs.LinkMarks.{fresh_marks}
use Rattle.link_ports.specs.Traffic.{IsSilent}
use Rattle.run_endings.specs.Outside.{SinkSeen}
use Rattle.run_endings.specs.Saying.{Said, silence, AreWritten, WritesAnswers}
use Rattle.run_endings.specs.declared.endings.Ending.{Ending}
use Rattle.agent_runs.specs.LinkSeen.{LinkSeen, DialSeen}
use Rattle.agent_runs.specs.AgentRun.{DialFails, RunsAgent}
use Rattle.agent_runs.specs.parts.Dialling.{ServesDialled}

-- what a run says
abbrev pub Runs : Kind → Bool → Ending → DialSeen → DialSeen → SinkSeen → SinkSeen → Type 0
Runs kind allowed ending before after sink sink_after =
    (said : Said) × RunsAgent kind allowed said ending before after × WritesAnswers ending said sink sink_after

pub undialled : (kind : Kind) (allowed : Bool) (ending : Ending) (before after : DialSeen) (sink : SinkSeen)
    → DialFails ending before.faults after.faults → after.given ≡ before.given → AreWritten ending sink.faults sink.faults silence
    → Runs kind allowed ending before after sink sink
undialled kind allowed ending before after sink fails given written = (
  silence,
  inl (record { said_is = refl; fails = fails; given = given }),
  record { taken = Appended-none sink.taken; are_written = written },
)

-- the dial changed nothing that the dialler tells but how many there were
pub dialled : {kind : Kind} {allowed : Bool} {ending : Ending} {link : LinkSeen} {before between after : DialSeen}
    {sink sink_after : SinkSeen} → link.marks ≡ fresh_marks → link.faults ≡ 0 → IsSilent link.traffic
    → between ≡ before → ServesDialled kind allowed ending link between after sink sink_after
    → Runs kind allowed ending before after sink sink_after
dialled {kind = kind} {allowed = allowed} {ending = ending} {link = link} {after = after} {sink = sink} {sink_after = sink_after}
    unmarked unfailed unused same serves =
    subst (λ (before : DialSeen). Runs kind allowed ending before after sink sink_after) same (
      serves.served.0,
      inr (record {
        link = link;
        link_after = serves.link_after;
        unmarked = unmarked;
        unfailed = unfailed;
        silent = unused;
        served = serves.served.1;
        given = serves.given;
        faults = serves.faults;
      }),
      serves.served.2,
    )
