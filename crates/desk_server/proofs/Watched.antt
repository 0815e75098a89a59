-- A recorder stays that of its worker, and records the checks of all connections.
use Rattle.std.proofs.Common.{◌≡◌, ◌∙◌, ℕ, List, [], ◌∷◌, ◌++◌, Option, ap}
use Rattle.link_ports.specs.Traffic.{Traffic}
use Rattle.link_ports.specs.LinkMarks.{LinkMarks}
use Rattle.check_monitor.specs.Monitor.{RecorderState, IsSame}
use Rattle.desk_server.proofs.Recordings.{records_more}
use Rattle.desk_server.specs.Visit.{Visit, InTurn}
use Rattle.client_door.specs.declared.judgements.Judgement.{Judgement}
use Rattle.desk_server.specs.Monitoring.{RecordsEach}
use Rattle.desk_server.specs.Monitored.{Post, VisitsWatched}

pub same_then : (old between new : RecorderState) → IsSame old between → IsSame between new → IsSame old new
same_then old between new first then = (then.0 ∙ first.0, then.1 ∙ first.1)

-- a recorder, and what it is once some checks were recorded, each once and in turn
abbrev pub RecordsSome : RecorderState → RecorderState → Type 0
RecordsSome old new = (judged : List Judgement) × RecordsEach old judged new

pub visits_record : {L : Type 0} (traffic : L → Option Traffic) (marks : L → LinkMarks) (faults : L → ℕ)
    (visits : List (Visit L))
    (start now : Post)
    → InTurn (VisitsWatched traffic marks faults) start visits now → RecordsSome start.recorder now.recorder
visits_record traffic marks faults [] start now same = ([], ap (λ (post : Post). post.recorder) same)
visits_record traffic marks faults (visit ∷ more) start now (between, (silent, (tally, calls, serves)), rest) =
    let (judged, then) = visits_record traffic marks faults more between now rest in (
      serves.judged ++ judged,
      records_more serves.judged judged start.recorder between.recorder now.recorder
          serves.records then,
    )
