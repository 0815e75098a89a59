-- A connection of a client.
use Rattle.std.specs.Prelude.{ℕ, List, Option, None}
use Rattle.link_ports.specs.Traffic.{Traffic, IsSilent}
use Rattle.link_ports.specs.LinkMarks.{LinkMarks}
use Rattle.live_desk.specs.Seat.{SeatState}
use Rattle.server_hall.specs.Tally.{Tally, no_calls}
use Rattle.server_hall.specs.declared.calls.HallCall.{HallCall}
use Rattle.door_frames.specs.declared.endings.Ended.{Ended}
use Rattle.client_door.specs.Serving.{client_side, Serves}
use Rattle.desk_server.specs.Visit.{Visit}

-- what `serve_client` does: a hall of the connection's own, by way of which no call was made before
abbrev pub ServesClient : {L : Type 0} → (L → Option Traffic) → (L → LinkMarks) → (L → ℕ) → Ended → SeatState → L
    → SeatState → L → Type 0
ServesClient traffic marks faults ended seat link seat_now link_now = (tally : Tally) × (calls : Option (List HallCall))
    × Serves ended
    (client_side seat no_calls None (traffic link) (marks link) (faults link))
    (client_side seat_now tally calls (traffic link_now) (marks link_now) (faults link_now))

-- over a link over which nothing went before
abbrev pub VisitsClients : {L : Type 0} → (L → Option Traffic) → (L → LinkMarks) → (L → ℕ) → SeatState → Visit L
    → SeatState → Type 0
VisitsClients traffic marks faults seat visit seat_now =
    IsSilent (traffic visit.accepted)
    × ServesClient traffic marks faults visit.ended seat visit.accepted seat_now visit.returned
