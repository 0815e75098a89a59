-- A whole run of `watch`: its service is given no source and no sink, and so no call of them ends it.
use Rattle.std.proofs.Common.{◌≡◌, ℕ, List, Option, sym, subst}
use Rattle.link_ports.specs.Traffic.{Traffic}
use Rattle.link_ports.specs.LinkMarks.{LinkMarks}
use Rattle.link_ports.specs.declared.door_kinds.DoorKind.{DoorKind}
use Rattle.run_endings.specs.Ending.{source_faults_after}
use Rattle.run_endings.specs.Outside.{SinkSeen, DiskSeen}
use Rattle.run_endings.specs.declared.endings.Ending.{Ending}
use Rattle.atomic_table.specs.Seated.{TableId}
use Rattle.desk_server.specs.Monitored.{Post, VisitsWatched}
use Rattle.serve_runs.specs.Run.{RunsServe}
use Rattle.serve_runs.proofs.Ending.{never-sink, never-source}
use Rattle.watch_runs.specs.Watching.{new_posts, RunsWatch, WritesLines}
use Rattle.watch_runs.proofs.Lines.{reads_nothing}

module _ {L E : Type 0} (traffic : L → Option Traffic) (marks : L → LinkMarks) (faults : L → ℕ)
    (given_back : E → Option (List L)) (door_faults : E → ℕ) (kind : E → Option DoorKind) (workers : ℕ)
    (ending : Ending) (disk disk_now : DiskSeen) (net net_now : ℕ) (closed closed_now : Option (List E)) (sink sink_now : SinkSeen) where
  abbrev Runs : TableId → Option (List Post) → Ending → Type 0
  Runs queue left met = RunsServe (λ (post : Post). post.seat) (VisitsWatched traffic marks faults) traffic marks faults given_back
      door_faults kind (new_posts queue workers) left met disk disk_now net net_now closed closed_now

  pub lines_of : RunsWatch traffic marks faults given_back door_faults kind workers ending disk disk_now net net_now closed closed_now
      sink sink_now → WritesLines workers ending sink sink_now
  lines_of (met, writing, queue, left, runs, lines, is) = (
    met,
    writing,
    left,
    is,
    (λ so. never-sink (λ (post : Post). post.seat) (VisitsWatched traffic marks faults) traffic marks faults given_back door_faults kind
        (new_posts queue workers) left disk disk_now net net_now closed closed_now
        (subst (λ (met : Ending). Runs queue left met) so runs)),
    lines,
  )

  pub reads_no_source : (count : ℕ)
      → RunsWatch traffic marks faults given_back door_faults kind workers ending disk disk_now net net_now closed closed_now sink sink_now
      → count ≡ source_faults_after ending count
  reads_no_source count (met, writing, queue, left, runs, lines, is) =
      subst (λ (ending : Ending). count ≡ source_faults_after ending count) (sym is)
      (reads_nothing met writing count
      (λ so. never-source (λ (post : Post). post.seat) (VisitsWatched traffic marks faults) traffic marks faults given_back door_faults kind
      (new_posts queue workers) left disk disk_now net net_now closed closed_now
      (subst (λ (met : Ending). Runs queue left met) so runs)))
