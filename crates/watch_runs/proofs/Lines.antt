-- The last line of a run behind its lines.
use Rattle.std.proofs.Common.{◌≡◌, ◌∙◌, ◌⊎◌, inl, inr, ℕ, List, [], ◌∷◌, ◌++◌, Option, refl, sym}
use Rattle.desk_ports.specs.Faults.{next_count}
use Rattle.desk_ports.proofs.Appends.{Appended-none}
use Rattle.run_endings.specs.Ending.{source_faults_after}
use Rattle.run_endings.specs.Outside.{SinkSeen}
use Rattle.run_endings.specs.Saying.{Said, silence, IsCut, IsTried, WritesAnswers, Writes}
use Rattle.run_endings.specs.declared.endings.Ending.{Ending}
use Rattle.run_endings.specs.declared.endings.Ending.TheVariants as ending
use Rattle.desk_server.specs.Monitored.{Post}
use Rattle.monitor_journal.specs.declared.writing.Writing.{Writing}
use Rattle.monitor_journal.specs.declared.writing.Writing.TheVariants.{GoesOn, SinkFailed, OutOfMemory}
use Rattle.watch_runs.specs.Watching.{Journaled, ending_with, WritesLines, WritesLast}
use Rattle.watch_runs.specs.Watching.Journaled.{unserved, journaled}

-- what the writing of the last line does, whatever was said before it
abbrev pub LastLine : Ending → SinkSeen → SinkSeen → Type 0
LastLine e sink after = (said : Said) (before : SinkSeen) → WritesAnswers e said before sink → Writes e said before after

uncut : IsCut [] [] → ⊥
uncut (byte, rest, is) = cc

tried_none : (faults now : ℕ) → IsTried faults now [] [] → now ≡ faults
tried_none faults now (inl (same, none)) = same
tried_none faults now (inr (risen, cut)) = absurd (uncut cut)

-- the last line of an ending that is not the sink's
last_is : (e : Ending) (sink after : SinkSeen) → (e ≡ ending.Sink → ⊥) → LastLine e sink after → WritesLast e sink after
last_is ending.Done sink after other last =
    let w = last silence sink (record { taken = Appended-none sink.taken; are_written = (refl, refl) }) in
    (w.last, w.taken, inl (w.counts, w.is_written.1))
last_is ending.Source sink after other last =
    let w = last silence sink (record { taken = Appended-none sink.taken; are_written = (refl, refl) }) in
    (w.last, w.taken, inl (w.counts, w.is_written.1))
last_is ending.Disk sink after other last =
    let w = last silence sink (record { taken = Appended-none sink.taken; are_written = (refl, refl) }) in
    (w.last, w.taken, inl (w.counts, w.is_written.1))
last_is ending.Net sink after other last =
    let w = last silence sink (record { taken = Appended-none sink.taken; are_written = (refl, refl) }) in
    (w.last, w.taken, inl (w.counts, w.is_written.1))
last_is ending.Memory sink after other last =
    let w = last silence sink (record { taken = Appended-none sink.taken; are_written = inl (refl, refl) }) in
    (w.last, w.taken, inl (tried_none sink.faults after.faults w.is_written.0, w.is_written.1))
last_is ending.Sink sink after other last = absurd (other refl)
last_is ending.Words sink after other last =
    let w = last silence sink (record { taken = Appended-none sink.taken; are_written = (refl, refl) }) in
    (w.last, w.taken, w.is_written.1)
last_is (ending.Line number) sink after other last =
    let w = last silence sink (record { taken = Appended-none sink.taken; are_written = (refl, refl) }) in
    (w.last, w.taken, w.is_written.1)
last_is (ending.Damaged file line) sink after other last =
    let w = last silence sink (record { taken = Appended-none sink.taken; are_written = (refl, refl) }) in
    (w.last, w.taken, w.is_written.1)
last_is ending.Reply sink after other last =
    let w = last silence sink (record { taken = Appended-none sink.taken; are_written = (refl, refl) }) in
    (w.last, w.taken, w.is_written.1)
last_is (ending.TooLong size) sink after other last =
    let w = last silence sink (record { taken = Appended-none sink.taken; are_written = (refl, refl) }) in
    (w.last, w.taken, w.is_written.1)

-- the same where a call of the sink had failed
last_of_failed : (before : ℕ) (sink after : SinkSeen) → sink.faults ≡ next_count before → LastLine ending.Sink sink after
    → WritesLast ending.Sink sink after
last_of_failed before sink after risen last =
    let w = last (record { due = 0 ∷ []; written = [] }) (record { taken = sink.taken; faults = before })
    (record { taken = Appended-none sink.taken; are_written = (risen, (0, [], refl)) }) in
    (w.last, w.taken, inl (w.counts ∙ sym risen, w.is_written.1))

-- a sink had failed where the run ends for that
pub sink_failed : (workers : ℕ) (left : Option (List Post)) (met : Ending) (writing : Writing) (before sink : SinkSeen)
    → ending.Sink ≡ ending_with met writing → (met ≡ ending.Sink → ⊥)
    → Journaled workers left writing before sink → sink.faults ≡ next_count before.faults
sink_failed workers left ending.Done SinkFailed before sink is other (unserved none goes_on same) = cc
sink_failed workers left ending.Done SinkFailed before sink is other (journaled entries posts left_is whole known (count, part)) = count
sink_failed workers left ending.Done GoesOn before sink is other lines = cc
sink_failed workers left ending.Done OutOfMemory before sink is other lines = cc
sink_failed workers left ending.Sink writing before sink is other lines = absurd (other refl)
sink_failed workers left ending.Memory writing before sink is other lines = cc
sink_failed workers left ending.Words writing before sink is other lines = cc
sink_failed workers left (ending.Line number) writing before sink is other lines = cc
sink_failed workers left ending.Source writing before sink is other lines = cc
sink_failed workers left ending.Disk writing before sink is other lines = cc
sink_failed workers left ending.Net writing before sink is other lines = cc
sink_failed workers left (ending.Damaged file line) writing before sink is other lines = cc
sink_failed workers left ending.Reply writing before sink is other lines = cc
sink_failed workers left (ending.TooLong size) writing before sink is other lines = cc

pub last_line_behind : (workers : ℕ) (e : Ending) (before sink after : SinkSeen) → WritesLines workers e before sink → LastLine e sink after
    → WritesLast e sink after
last_line_behind workers ending.Sink before sink after (met, writing, left, is, other, lines) last =
    last_of_failed before.faults sink after (sink_failed workers left met writing before sink is other lines) last
last_line_behind workers ending.Done before sink after lines last = last_is ending.Done sink after (λ is. cc) last
last_line_behind workers ending.Memory before sink after lines last = last_is ending.Memory sink after (λ is. cc) last
last_line_behind workers ending.Words before sink after lines last = last_is ending.Words sink after (λ is. cc) last
last_line_behind workers (ending.Line number) before sink after lines last = last_is (ending.Line number) sink after (λ is. cc) last
last_line_behind workers ending.Source before sink after lines last = last_is ending.Source sink after (λ is. cc) last
last_line_behind workers ending.Disk before sink after lines last = last_is ending.Disk sink after (λ is. cc) last
last_line_behind workers ending.Net before sink after lines last = last_is ending.Net sink after (λ is. cc) last
last_line_behind workers (ending.Damaged file line) before sink after lines last =
    last_is (ending.Damaged file line) sink after (λ is. cc) last
last_line_behind workers ending.Reply before sink after lines last = last_is ending.Reply sink after (λ is. cc) last
last_line_behind workers (ending.TooLong size) before sink after lines last = last_is (ending.TooLong size) sink after (λ is. cc) last

-- ---- the source

-- a run whose service did not end for a source, did not either
pub reads_nothing : (met : Ending) (writing : Writing) (count : ℕ) → (met ≡ ending.Source → ⊥)
    → count ≡ source_faults_after (ending_with met writing) count
reads_nothing ending.Source writing count other = absurd (other refl)
reads_nothing ending.Done GoesOn count other = refl
reads_nothing ending.Done SinkFailed count other = refl
reads_nothing ending.Done OutOfMemory count other = refl
reads_nothing met writing count other = refl
