-- A run of `watch` that no failing call stops.
use Rattle.std.proofs.Common.{◌≡◌, ◌∙◌, ◌⊎◌, inl, inr, ℕ, List, Option, refl, sym, subst, arith}
use Rattle.desk_ports.specs.Faults.{next_count}
use Rattle.link_ports.specs.Traffic.{Traffic}
use Rattle.link_ports.specs.LinkMarks.{LinkMarks}
use Rattle.link_ports.specs.declared.door_kinds.DoorKind.{DoorKind}
use Rattle.desk_state.specs.DeskState.{DeskState}
use Rattle.run_endings.specs.Ending.{Unraised}
use Rattle.run_endings.specs.LastLine.{last_line}
use Rattle.run_endings.specs.Outside.{SinkSeen, DiskSeen}
use Rattle.run_endings.specs.Saying.{IsTried}
use Rattle.run_endings.specs.declared.endings.Ending.{Ending}
use Rattle.run_endings.specs.declared.endings.Ending.TheVariants.{Done, Memory, Sink}
use Rattle.folder_runs.specs.Folder.{StandsFor}
use Rattle.monitor_journal.specs.declared.writing.Writing.{Writing}
use Rattle.monitor_journal.specs.declared.writing.Writing.TheVariants.{GoesOn, SinkFailed, OutOfMemory}
use Rattle.desk_server.specs.Monitored.{Post, VisitsWatched}
use Rattle.serve_runs.proofs.Completing.{completes-serve}
use Rattle.watch_runs.specs.Watching.{ending_with, new_posts, Journaled, RunsWatch, WritesLast}
use Rattle.watch_runs.proofs.Lines.{sink_failed}

-- how a run ends whose service did its work, or found no memory
ends-done : (writing : Writing) → (ending_with Done writing ≡ Done) ⊎ ((ending_with Done writing ≡ Memory) ⊎ (ending_with Done writing ≡ Sink))
ends-done GoesOn = inl refl
ends-done OutOfMemory = inr (inl refl)
ends-done SinkFailed = inr (inr refl)

ends-with : (met : Ending) (writing : Writing) → (met ≡ Done) ⊎ (met ≡ Memory)
    → (ending_with met writing ≡ Done) ⊎ ((ending_with met writing ≡ Memory) ⊎ (ending_with met writing ≡ Sink))
ends-with met writing (inl done) =
    subst (λ e. (ending_with e writing ≡ Done) ⊎ ((ending_with e writing ≡ Memory) ⊎ (ending_with e writing ≡ Sink))) (sym done)
    (ends-done writing)
ends-with met writing (inr memory) =
    subst (λ e. (ending_with e writing ≡ Done) ⊎ ((ending_with e writing ≡ Memory) ⊎ (ending_with e writing ≡ Sink))) (sym memory)
    (inr (inl refl))

is-other : (met : Ending) → (met ≡ Done) ⊎ (met ≡ Memory) → met ≡ Sink → ⊥
is-other met (inl done) is = cc
is-other met (inr memory) is = cc

last-tried : (between after : ℕ) (bytes written : List ℕ) → IsTried between after bytes written
    → (after ≡ between) ⊎ (after ≡ next_count between)
last-tried between after bytes written (inl (same, whole)) = inl same
last-tried between after bytes written (inr (risen, cut)) = inr risen

-- a sink no call of which failed had not failed before the last line
sink-still : (before between after : ℕ) → Unraised before after → between ≡ next_count before
    → (after ≡ between) ⊎ (after ≡ next_count between) → ⊥
sink-still before between after (below, same) risen (inl is) = omega (arith, below, same, risen, is)
sink-still before between after (below, same) risen (inr is) = omega (arith, below, same, risen, is)

by_end : (ending met : Ending) (writing : Writing) → ending ≡ ending_with met writing → (Sink ≡ ending_with met writing → ⊥)
    → (ending_with met writing ≡ Done) ⊎ ((ending_with met writing ≡ Memory) ⊎ (ending_with met writing ≡ Sink))
    → (ending ≡ Done) ⊎ (ending ≡ Memory)
by_end ending met writing is still (inl done) = inl (is ∙ done)
by_end ending met writing is still (inr (inl memory)) = inr (is ∙ memory)
by_end ending met writing is still (inr (inr sink)) = absurd (still (sym sink))

module _ {L E : Type 0} (traffic : L → Option Traffic) (marks : L → LinkMarks) (faults : L → ℕ)
    (given_back : E → Option (List L)) (door_faults : E → ℕ) (kind : E → Option DoorKind) (workers : ℕ)
    (ending : Ending) (disk disk_now : DiskSeen) (net net_now : ℕ) (closed closed_now : Option (List E)) (sink between after : SinkSeen)
    (start : DeskState) (stands : StandsFor disk start) (disk_still : Unraised disk.faults disk_now.faults)
    (net_still : Unraised net net_now) (sink_still : Unraised sink.faults after.faults) where
  by_lines : (left : Option (List Post)) (met : Ending) (writing : Writing) → ending ≡ ending_with met writing
      → Journaled workers left writing sink between → WritesLast ending between after → (met ≡ Done) ⊎ (met ≡ Memory)
      → (ending ≡ Done) ⊎ (ending ≡ Memory)
  by_lines left met writing is lines last so =
      by_end ending met writing is
      (λ failed. sink-still sink.faults between.faults after.faults sink_still
      (sink_failed workers left met writing sink between failed (is-other met so) lines)
      (last-tried between.faults after.faults (last_line ending) last.0 last.2))
      (ends-with met writing so)

  pub completes-watch : RunsWatch traffic marks faults given_back door_faults kind workers ending disk disk_now net net_now closed closed_now
      sink between → WritesLast ending between after → (ending ≡ Done) ⊎ (ending ≡ Memory)
  completes-watch (met, writing, queue, left, runs, lines, is) last =
      by_lines left met writing is lines last
      (completes-serve disk disk_now net net_now start stands disk_still net_still
      (λ (post : Post). post.seat) (VisitsWatched traffic marks faults) traffic marks faults given_back door_faults kind
      (new_posts queue workers) left closed closed_now met runs)
