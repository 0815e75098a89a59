-- What is recorded of a connection is left out: the rest is what a worker does that records nothing.
use Rattle.std.proofs.Common.{◌≡◌, ℕ, List, [], ◌∷◌, Option, None, refl, ap}
use Rattle.link_ports.specs.Traffic.{Traffic}
use Rattle.link_ports.specs.LinkMarks.{LinkMarks}
use Rattle.door_frames.specs.declared.endings.Ended.{Ended}
use Rattle.client_door.specs.Serving.{ClientSide, Talks, IsIdle, Served, Serves}
use Rattle.client_door.specs.Serving.Serves.{unbegun, refused, served}
use Rattle.desk_server.specs.Visit.{Visit, InTurn}
use Rattle.desk_server.specs.Clients.{VisitsClients}
use Rattle.desk_server.specs.Monitored.{Post, VisitsWatched}

-- ---- a connection

abbrev untold : ClientSide → ClientSide
untold side = record side { recording = None }

talks-untold : {start now : ClientSide} {ended : Ended} → Talks start now ended
    → Talks (untold start) (untold now) ended
talks-untold talks = record {
  received = talks.received;
  answered = talks.answered;
  last = talks.last;
  cause = talks.cause;
  ended_is = talks.ended_is;
  right = talks.right;
  bytes = talks.bytes;
  carried = talks.carried;
  read = talks.read;
  seen = talks.seen;
  rising = talks.rising;
  same_seat = talks.same_seat;
  tally = talks.tally;
  calls = talks.calls;
  asking = talks.asking;
  for_checks = talks.for_checks;
  faults = talks.faults;
  at_end = talks.at_end;
  ends = talks.ends;
  recorded = λ old is. let wrong : ⊥ = cc in absurd wrong;
}

idle-untold : {start now : ClientSide} → IsIdle start now → IsIdle (untold start) (untold now)
idle-untold idle = record { seat = idle.seat; calls = idle.calls; recording = refl; carried = idle.carried }

serves-untold : {ended : Ended} {start now : ClientSide} → Serves ended start now
    → Serves ended (untold start) (untold now)
serves-untold (unbegun why tally marks idle) = unbegun why tally marks (idle-untold idle)
serves-untold (refused refusal is tally marks faults idle) = refused refusal is tally marks faults (idle-untold idle)
serves-untold (served one) = served (record {
  entered = one.entered;
  inner = one.inner;
  left = one.left;
  first = untold one.first;
  last = untold one.last;
  entry = one.entry;
  told = one.told;
  told_calls = one.told_calls;
  opened = one.opened;
  marks = one.marks;
  faults = one.faults;
  recording = refl;
  talks = talks-untold one.talks;
  leaving = ap (λ (side : ClientSide). untold side) one.leaving;
  raised = one.raised;
  result_is = one.result_is;
})

-- ---- all connections of a worker

-- what is seen of what one connection leaves to the next
along : {S T L : Type 0} (seen : S → T) (step : S → Visit L → S → Type 0) (shown : T → Visit L → T → Type 0)
    → ((old : S) (visit : Visit L) (new : S) → step old visit new → shown (seen old) visit (seen new))
    → (start : S) (visits : List (Visit L)) (now : S) → InTurn step start visits now
    → InTurn shown (seen start) visits (seen now)
along seen step shown each start [] now is = ap seen is
along seen step shown each start (visit ∷ visits) now (between, one, others) =
    (seen between, each start visit between one, along seen step shown each between visits now others)

module _ {L : Type 0} (traffic : L → Option Traffic) (marks : L → LinkMarks) (faults : L → ℕ) where
  visit-untold : (old : Post) (visit : Visit L) (new : Post) → VisitsWatched traffic marks faults old visit new
      → VisitsClients traffic marks faults old.seat visit new.seat
  visit-untold old visit new (silent, (tally, calls, one)) = (silent, (tally, calls, serves-untold one.serves))

  -- all connections of a worker
  pub visits-untold : (start : Post) (visits : List (Visit L)) (now : Post) → InTurn (VisitsWatched traffic marks faults) start visits now
      → InTurn (VisitsClients traffic marks faults) start.seat visits now.seat
  visits-untold start visits now in_turn =
      along (λ (post : Post). post.seat) (VisitsWatched traffic marks faults) (VisitsClients traffic marks faults) visit-untold
      start visits now in_turn
