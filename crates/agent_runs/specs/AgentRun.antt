-- What `agent KIND allow` and `agent KIND deny` say, and how they end, over a dialler before and after.
use Rattle.std.specs.Prelude.{◌≡◌, ◌⊎◌, ℕ, Bool, List}
use Rattle.desk_ports.specs.Faults.{next_count}
use Rattle.cynara_keys.specs.declared.results.Kind.{Kind}
use Rattle.link_ports.specs.Told.{AppendsTold}
use Rattle.link_ports.specs.LinkMarks.{fresh_marks}
use Rattle.link_ports.specs.Traffic.{IsSilent}
use Rattle.link_ports.specs.NetCounts.{count_after_give_back}
use Rattle.line_answers.specs.Answers.{taken_text}
use Rattle.wire_fields.specs.declared.messages.Framed.{Framed}
use Rattle.run_endings.specs.Saying.{Said, silence}
use Rattle.run_endings.specs.declared.endings.Ending.{Ending}
use Rattle.run_endings.specs.declared.endings.Ending.TheVariants.{Done, Memory, Sink, Net, Reply}
use Rattle.agent_runs.specs.LinkSeen.{LinkSeen, DialSeen}
use Rattle.agent_runs.specs.AgentTalk.{lines, GoesOn, Serves}

-- how a run ends whose dial fails, and what it does to the dialler's count
abbrev pub DialFails : Ending → ℕ → ℕ → Type 0
DialFails Net count counted = counted ≡ next_count count
DialFails Memory count counted = counted ≡ count
DialFails ending count counted = ⊥

-- no link was dialled
pub record Undialled (said : Said) (ending : Ending) (before after : DialSeen) : Type 0 where
  pub said_is : said ≡ silence
  pub fails : DialFails ending before.faults after.faults
  pub given : after.given ≡ before.given

-- A link was dialled and served, and then given back, also where it did not fail. So a connection that the service
-- ended counts for the dialler as one whose input had ended.
pub record Dialled (kind : Kind) (allowed : Bool) (said : Said) (ending : Ending)
    (before after : DialSeen) : Type 0 where
  pub link : LinkSeen
  pub link_after : LinkSeen
  pub unmarked : link.marks ≡ fresh_marks
  pub unfailed : link.faults ≡ 0
  pub silent : IsSilent link.traffic
  pub served : Serves kind allowed said ending link link_after
  pub given : AppendsTold before.given link_after after.given
  pub faults : after.faults ≡ count_after_give_back link_after.marks link_after.faults before.faults

abbrev pub RunsAgent : Kind → Bool → Said → Ending → DialSeen → DialSeen → Type 0
RunsAgent kind allowed said ending before after =
    Undialled said ending before after ⊎ Dialled kind allowed said ending before after

-- The count of the dialler behind a run: one call of the outside failed where the run ended so. Where its peer ended
-- the connection one may have been counted when the link was given back.
abbrev pub DialCounts : Ending → ℕ → ℕ → Type 0
DialCounts Net before after = after ≡ next_count before
DialCounts Memory before after = after ≡ before
DialCounts Sink before after = after ≡ before
DialCounts ending before after = (after ≡ before) ⊎ (after ≡ next_count before)

-- ---- a run of which no call of the sink fails

-- the lines of the questions that came, all of them
abbrev pub AreLines : List ℕ → Type 0
AreLines answers = (messages : List Framed) × GoesOn messages × (answers ≡ lines messages)

-- How a run then ends that wrote these answers, and what it did to the dialler's count. That rises where a call of the
-- net failed, and also where the service ended the connection, since the link is given back. So where it stays, the
-- kind is taken, or what the service sent is a bad reply, or memory ran out.
abbrev pub CompletesAgent : Ending → List ℕ → ℕ → ℕ → Type 0
-- the service ended the connection between two messages, or it said that the kind is taken
CompletesAgent Done answers net net_after =
    (AreLines answers × (net_after ≡ next_count net))
    ⊎ ((kind : Kind) × (answers ≡ taken_text kind.0) × (net_after ≡ net))
CompletesAgent Reply answers net net_after = AreLines answers × ((net_after ≡ net) ⊎ (net_after ≡ next_count net))
CompletesAgent Net answers net net_after = AreLines answers × (net_after ≡ next_count net)
CompletesAgent Memory answers net net_after = net_after ≡ net
CompletesAgent ending answers net net_after = ⊥
