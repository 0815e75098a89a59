-- A connection of an agent.
use Rattle.std.specs.Prelude.{ℕ, List, Option, None}
use Rattle.link_ports.specs.Traffic.{Traffic, IsSilent}
use Rattle.link_ports.specs.LinkMarks.{LinkMarks}
use Rattle.server_hall.specs.Tally.{Tally, no_calls}
use Rattle.server_hall.specs.declared.calls.HallCall.{HallCall}
use Rattle.door_frames.specs.declared.endings.Ended.{Ended}
use Rattle.agent_door.specs.Serving.{agent_side, Serves}
use Rattle.desk_server.specs.Visit.{Visit}

-- what `serve_agent` does: a hall of the connection's own, by way of which no call was made before
abbrev pub ServesAgent : {L : Type 0} → (L → Option Traffic) → (L → LinkMarks) → (L → ℕ) → Ended → L → L → Type 0
ServesAgent traffic marks faults ended link link_now = (tally : Tally) × (calls : Option (List HallCall)) × Serves ended
    (agent_side no_calls None (traffic link) (marks link) (faults link))
    (agent_side tally calls (traffic link_now) (marks link_now) (faults link_now))

-- over a link over which nothing went before; nothing is handed from one connection to the next
abbrev pub VisitsAgents : {L : Type 0} → (L → Option Traffic) → (L → LinkMarks) → (L → ℕ) → Unit {0} → Visit L
    → Unit {0} → Type 0
VisitsAgents traffic marks faults before visit after =
    IsSilent (traffic visit.accepted) × ServesAgent traffic marks faults visit.ended visit.accepted visit.returned
