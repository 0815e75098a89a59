-- A link that is there is served and given back.
use Rattle.std.specs.Prelude.{◌≡◌, Bool}
use Rattle.cynara_keys.specs.declared.results.Kind.{Kind}
use Rattle.link_ports.specs.Told.{AppendsTold}
use Rattle.link_ports.specs.NetCounts.{count_after_give_back}
use Rattle.run_endings.specs.Outside.{SinkSeen}
use Rattle.run_endings.specs.declared.endings.Ending.{Ending}
use Rattle.agent_runs.specs.LinkSeen.{LinkSeen, DialSeen}
use Rattle.agent_runs.specs.AgentTalk.{Served}

pub record ServesDialled (kind : Kind) (allowed : Bool) (ending : Ending) (link : LinkSeen) (before after : DialSeen)
    (sink sink_after : SinkSeen) : Type 0 where
  pub link_after : LinkSeen
  pub served : Served kind allowed ending link link_after sink sink_after
  pub given : AppendsTold before.given link_after after.given
  pub faults : after.faults ≡ count_after_give_back link_after.marks link_after.faults before.faults
