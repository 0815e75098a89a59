-- A connection of a client whose checks are recorded.
use Rattle.std.specs.Prelude.{ℕ, List, Option, None}
use Rattle.link_ports.specs.Traffic.{Traffic, IsSilent}
use Rattle.link_ports.specs.LinkMarks.{LinkMarks}
use Rattle.live_desk.specs.Seat.{SeatState}
use Rattle.server_hall.specs.Tally.{Tally, no_calls}
use Rattle.server_hall.specs.declared.calls.HallCall.{HallCall}
use Rattle.door_frames.specs.declared.endings.Ended.{Ended}
use Rattle.client_door.specs.Serving.{client_side}
use Rattle.check_monitor.specs.Monitor.{RecorderState}
use Rattle.desk_server.specs.Monitoring.{ServesMonitored}
use Rattle.desk_server.specs.Visit.{Visit}

-- what one connection leaves to the next: the seat, and the recorder
pub record Post : Type 0 where
  pub seat : SeatState
  pub recorder : RecorderState

abbrev pub post_of : SeatState → RecorderState → Post
post_of seat recorder = record { seat = seat; recorder = recorder }

-- what `serve_monitored` does: a hall of the connection's own, by way of which no call was made before
abbrev pub ServesWatched : {L : Type 0} → (L → Option Traffic) → (L → LinkMarks) → (L → ℕ) → Ended → Post → L → Post → L
    → Type 0
ServesWatched traffic marks faults ended post link post_now link_now =
    (tally : Tally) × (calls : Option (List HallCall)) × ServesMonitored ended
    (client_side post.seat no_calls None (traffic link) (marks link) (faults link))
    (client_side post_now.seat tally calls (traffic link_now) (marks link_now) (faults link_now))
    post.recorder post_now.recorder

-- over a link over which nothing went before
abbrev pub VisitsWatched : {L : Type 0} → (L → Option Traffic) → (L → LinkMarks) → (L → ℕ) → Post → Visit L → Post
    → Type 0
VisitsWatched traffic marks faults post visit post_now =
    IsSilent (traffic visit.accepted)
    × ServesWatched traffic marks faults visit.ended post visit.accepted post_now visit.returned
