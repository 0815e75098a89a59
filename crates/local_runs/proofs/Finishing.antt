-- A script's run, with the answers that waited when it ended.
use Rattle.std.proofs.Common.{◌≡◌, [], ◌∷◌, ◌++◌, inl, inr, ℕ, List, take, Option, Result, Ok, Err, refl, sym, ap, ◌∙◌}
use Rattle.std.proofs.Common.{subst, append_assoc, append-nil}
use Rattle.desk_ports.specs.Faults.{next_count}
use Rattle.desk_ports.specs.Content.{Appended}
use Rattle.desk_ports.proofs.Appends.{Appended-none, Appended-then}
use Rattle.desk_state.specs.DeskState.{DeskState}
use Rattle.line_script.specs.declared.steps.Step.{Step}
use Rattle.run_endings.specs.Ending.{source_faults_after, disk_faults_after}
use Rattle.run_endings.specs.Outside.{SourceSeen}
use Rattle.run_endings.specs.Saying.{Said, IsCut, IsTried, AreWritten, WritesAnswers}
use Rattle.script_replies.specs.Script.{replies}
use Rattle.local_runs.specs.LocalRun.{HasRead, AreAnswered, AnswersScript}
use Rattle.local_runs.specs.parts.Local.{Flushes, counts_sink}
use Rattle.local_runs.specs.parts.Progress.{Answers}
use Rattle.local_runs.specs.parts.Finish.{Finishes}
use Rattle.run_endings.specs.declared.endings.Ending.{Ending}
use Rattle.run_endings.specs.declared.endings.Ending.TheVariants.{Done, Memory, Words, Line, Source, Sink, Disk, Net}
use Rattle.run_endings.specs.declared.endings.Ending.TheVariants.{Damaged, Reply, TooLong}
use Rattle.local_runs.specs.declared.local_script.LocalScript.{LocalScript}
use Rattle.script_replies.proofs.Steps.{in-turn-more}
use Rattle.run_endings.proofs.Trying.{IsCut-take}

-- more bytes before those that are cut
IsCut-behind : (front written bytes answers : List ℕ) → answers ≡ front ++ bytes → IsCut written bytes
    → IsCut (front ++ written) answers
IsCut-behind front written bytes answers parts cut = (
  cut.0,
  cut.1,
  parts ∙ (ap (λ bytes. front ++ bytes) cut.2 ∙ sym (append_assoc front written (cut.0 ∷ cut.1))),
)

-- what waited was tried when memory had run out
pub Finishes-memory : (result : Result (Unit {0}) Ending) (taken taken_after : Option (List ℕ)) (old new : LocalScript)
    (faults faults_after : ℕ)
    → Flushes taken taken_after old new result → faults_after ≡ counts_sink result faults
    → (written : List ℕ) × Appended taken written taken_after × IsTried faults faults_after old.answers written
Finishes-memory (Ok value) taken taken_after old new faults faults_after flushed count =
    (old.answers, flushed.0, inl (count, refl))
Finishes-memory (Err Sink) taken taken_after old new faults faults_after flushed count =
    let part = flushed.0 in (take part.0 old.answers, part.2, inr (count, IsCut-take part.0 old.answers part.1))
Finishes-memory (Err Done) taken taken_after old new faults faults_after flushed count = absurd flushed
Finishes-memory (Err Memory) taken taken_after old new faults faults_after flushed count = absurd flushed
Finishes-memory (Err Words) taken taken_after old new faults faults_after flushed count = absurd flushed
Finishes-memory (Err (Line number)) taken taken_after old new faults faults_after flushed count = absurd flushed
Finishes-memory (Err Source) taken taken_after old new faults faults_after flushed count = absurd flushed
Finishes-memory (Err Disk) taken taken_after old new faults faults_after flushed count = absurd flushed
Finishes-memory (Err Net) taken taken_after old new faults faults_after flushed count = absurd flushed
Finishes-memory (Err Reply) taken taken_after old new faults faults_after flushed count = absurd flushed
Finishes-memory (Err (TooLong size)) taken taken_after old new faults faults_after flushed count = absurd flushed
Finishes-memory (Err (Damaged file line)) taken taken_after old new faults faults_after flushed count = absurd flushed

-- ---- the counts behind it

-- the source's count
pub finished-source : (ending result : Ending) (taken taken_after : Option (List ℕ)) (faults faults_after count : ℕ)
    (waiting : List ℕ)
    → Finishes taken taken_after faults faults_after waiting ending result
    → source_faults_after ending count ≡ source_faults_after result count
finished-source Memory result taken taken_after faults faults_after count waiting finish =
    ap (λ ending. source_faults_after ending count) (sym finish.0)
finished-source (Line number) result taken taken_after faults faults_after count waiting (inl all) =
    ap (λ ending. source_faults_after ending count) (sym all.0)
finished-source (Line number) result taken taken_after faults faults_after count waiting (inr part) =
    ap (λ ending. source_faults_after ending count) (sym part.0)
finished-source ending result taken taken_after faults faults_after count waiting finish =
    ap (λ ending. source_faults_after ending count) (sym finish.0)

-- the disk's count
pub finished-disk : (ending result : Ending) (taken taken_after : Option (List ℕ)) (faults faults_after count : ℕ)
    (waiting : List ℕ)
    → Finishes taken taken_after faults faults_after waiting ending result
    → disk_faults_after ending count ≡ disk_faults_after result count
finished-disk Memory result taken taken_after faults faults_after count waiting finish =
    ap (λ ending. disk_faults_after ending count) (sym finish.0)
finished-disk (Line number) result taken taken_after faults faults_after count waiting (inl all) =
    ap (λ ending. disk_faults_after ending count) (sym all.0)
finished-disk (Line number) result taken taken_after faults faults_after count waiting (inr part) =
    ap (λ ending. disk_faults_after ending count) (sym part.0)
finished-disk ending result taken taken_after faults faults_after count waiting finish =
    ap (λ ending. disk_faults_after ending count) (sym finish.0)

module _ (Keeps : Ending → List Step → List Step → Type 0) (start : DeskState) (source source_after : SourceSeen)
    (taken taken_now taken_after : Option (List ℕ)) (faults faults_now faults_after : ℕ) (waiting : List ℕ) where
  abbrev Run : Ending → Type 0
  Run ending =
      (said : Said) × (script : AnswersScript start said ending source source_after)
      × Keeps ending script.answered script.steps
      × WritesAnswers ending said (record { taken = taken; faults = faults })
      (record { taken = taken_after; faults = faults_after })

  module _ (ending result : Ending) (a : Answers start ending waiting source.left source_after.left taken taken_now)
      (read : HasRead result a.input a.rest a.steps) (are_answered : AreAnswered result start a.answered a.steps)
      (keeps : Keeps result a.answered a.steps) where
    -- these bytes of the answers were written
    abbrev SaidSo : List ℕ → Said
    SaidSo written = record { due = replies start [] a.answered; written = written }

    -- these bytes were written behind the answers that were handed over before
    with_more : (more : List ℕ) → Appended taken_now more taken_after
        → AreWritten result faults faults_after (SaidSo (a.written ++ more)) → Run result
    with_more more appended are_written = (
      SaidSo (a.written ++ more),
      record {
        input = a.input;
        rest = a.rest;
        steps = a.steps;
        answered = a.answered;
        had = a.had;
        read = read;
        are_answered = are_answered;
        in_turn = in-turn-more start a.answered a.written more a.in_turn;
        due = refl;
      },
      keeps,
      record {
        taken = Appended-then taken taken_now taken_after a.written more a.appended appended;
        are_written = are_written;
      },
    )

    -- nothing was
    with_none : taken_after ≡ taken_now → AreWritten result faults faults_after (SaidSo a.written) → Run result
    with_none same are_written =
        with_more [] (subst (Appended taken_now []) (sym same) (Appended-none taken_now))
        (subst (λ written. AreWritten result faults faults_after (SaidSo written))
        (sym (append-nil a.written)) are_written)

  pub Run-finished : (ending result : Ending)
      → (a : Answers start ending waiting source.left source_after.left taken taken_now)
      → Keeps ending a.answered a.steps
      → ((number : ℕ) → ending ≡ Line number → Keeps Sink a.answered a.steps)
      → faults_now ≡ counts_sink {A = Unit {0}} (Err ending) faults
      → Finishes taken_now taken_after faults_now faults_after waiting ending result → Run result
  Run-finished Done result a keeps line sink finish =
      subst Run (sym finish.0)
      (with_none Done Done a a.read a.are_answered keeps finish.1 (finish.2 ∙ sink, a.handed.0))
  Run-finished Words result a keeps line sink finish = absurd a.read
  Run-finished Net result a keeps line sink finish = absurd a.read
  Run-finished Reply result a keeps line sink finish = absurd a.read
  Run-finished (TooLong size) result a keeps line sink finish = absurd a.read
  Run-finished (Damaged file number) result a keeps line sink finish = absurd a.read
  Run-finished Source result a keeps line sink finish =
      subst Run (sym finish.0)
      (with_none Source Source a a.read a.are_answered keeps finish.1 (finish.2 ∙ sink, a.handed.0))
  Run-finished Disk result a keeps line sink finish =
      subst Run (sym finish.0)
      (with_none Disk Disk a a.read a.are_answered keeps finish.1 (finish.2 ∙ sink, a.handed.0))
  Run-finished Sink result a keeps line sink finish =
      subst Run (sym finish.0)
      (with_none Sink Sink a a.read a.are_answered keeps finish.1 (finish.2 ∙ sink, a.handed))
  Run-finished Memory result a keeps line sink finish =
      let tried = finish.1 in
      subst Run (sym finish.0)
      (with_more Memory Memory a a.read a.are_answered keeps tried.0 tried.1
      (elim tried.2 [
        | inl all ↦ inl (all.0 ∙ sink, ap (λ bytes. a.written ++ bytes) all.1 ∙ sym a.handed)
        | inr part ↦
            inr (
              part.0 ∙ ap next_count sink,
              IsCut-behind a.written tried.0 waiting (replies start [] a.answered) a.handed part.1,
            )
      ]))
  Run-finished (Line number) result a keeps line sink finish =
      elim finish [
        | inl all ↦
            subst Run (sym all.0)
            (with_more (Line number) (Line number) a a.read a.are_answered keeps waiting all.1
            (all.2 ∙ sink, sym a.handed))
        | inr part ↦
            let cut = IsCut-take part.1.0 waiting part.1.1 in
            subst Run (sym part.0)
            (with_more (Line number) Sink a a.read.reads a.are_answered (line number refl)
            (take part.1.0 waiting) part.1.2 (
              part.2 ∙ ap next_count sink,
              IsCut-behind a.written (take part.1.0 waiting) waiting (replies start [] a.answered) a.handed cut,
            ))
      ]
