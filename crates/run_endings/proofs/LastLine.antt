-- A run with its last line.
use Rattle.std.proofs.Common.{◌≡◌, ◌∷◌, ◌++◌, [], ◌⊎◌, inl, inr, ℕ, List, sym, ◌∙◌, subst}
use Rattle.desk_ports.specs.Faults.{next_count}
use Rattle.desk_ports.specs.Content.{Appended}
use Rattle.desk_ports.proofs.Appends.{Appended-then}
use Rattle.run_endings.specs.Outside.{SinkSeen}
use Rattle.run_endings.specs.LastLine.{last_line}
use Rattle.run_endings.specs.Saying.{Said, IsTried, WritesAnswers, Writes}
use Rattle.run_endings.specs.declared.endings.Ending.{Ending}
use Rattle.run_endings.specs.declared.endings.Ending.TheVariants.{Done, Memory, Words, Line, Source, Sink, Disk, Net, Damaged, Reply, TooLong}

-- nothing is written of no bytes
tried_nothing : (faults faults_after : ℕ) (last : List ℕ) → IsTried faults faults_after [] last
    → (faults_after ≡ faults) × (last ≡ [])
tried_nothing faults faults_after last (inl all) = all
tried_nothing faults faults_after [] (inr part) = cc
tried_nothing faults faults_after (byte ∷ last) (inr part) = cc

-- whether the sink failed in what was tried
tried_faults : (faults faults_after : ℕ) (bytes last : List ℕ) → IsTried faults faults_after bytes last
    → (faults_after ≡ faults) ⊎ (faults_after ≡ next_count faults)
tried_faults faults faults_after bytes last (inl all) = inl all.0
tried_faults faults faults_after bytes last (inr part) = inr part.0

module _ (said : Said) (before now after : SinkSeen) where
  -- the last line of this ending was tried
  abbrev pub Last : Ending → Type 0
  Last ending =
      (last : List ℕ) × Appended now.taken last after.taken × IsTried now.faults after.faults (last_line ending) last

  -- the last line is tried behind what was written before
  taken_both : (ending : Ending) → WritesAnswers ending said before now → (l : Last ending)
      → Appended before.taken (said.written ++ l.0) after.taken
  taken_both ending w l = Appended-then before.taken now.taken after.taken said.written l.0 w.taken l.1

  -- an ending with a last line, all of whose answers were written
  behind_all : (ending : Ending) → now.faults ≡ before.faults → (l : Last ending)
      → IsTried before.faults after.faults (last_line ending) l.0
  behind_all ending same l = subst (λ count. IsTried count after.faults (last_line ending) l.0) same l.2

  pub with_last : (ending : Ending) → WritesAnswers ending said before now → Last ending → Writes ending said before after
  with_last Done w l =
      let none = tried_nothing now.faults after.faults l.0 l.2 in
      record { last = l.0; taken = taken_both Done w l; is_written = (w.are_written.1, none.1); counts = none.0 ∙ w.are_written.0 }
  with_last Source w l =
      let none = tried_nothing now.faults after.faults l.0 l.2 in
      record { last = l.0; taken = taken_both Source w l; is_written = (w.are_written.1, none.1); counts = none.0 ∙ w.are_written.0 }
  with_last Disk w l =
      let none = tried_nothing now.faults after.faults l.0 l.2 in
      record { last = l.0; taken = taken_both Disk w l; is_written = (w.are_written.1, none.1); counts = none.0 ∙ w.are_written.0 }
  with_last Net w l =
      let none = tried_nothing now.faults after.faults l.0 l.2 in
      record { last = l.0; taken = taken_both Net w l; is_written = (w.are_written.1, none.1); counts = none.0 ∙ w.are_written.0 }
  with_last Sink w l =
      let none = tried_nothing now.faults after.faults l.0 l.2 in
      record { last = l.0; taken = taken_both Sink w l; is_written = (w.are_written.1, none.1); counts = none.0 ∙ w.are_written.0 }
  with_last Memory w l =
      let none = tried_nothing now.faults after.faults l.0 l.2 in
      let tried = subst (λ count. IsTried before.faults count said.due said.written) (sym none.0) w.are_written in
      record {
        last = l.0;
        taken = taken_both Memory w l;
        is_written = (tried, none.1);
        counts = tried_faults before.faults after.faults said.due said.written tried;
      }
  with_last Words w l =
      let tried = behind_all Words w.are_written.0 l in
      record {
        last = l.0;
        taken = taken_both Words w l;
        is_written = (w.are_written.1, tried);
        counts = tried_faults before.faults after.faults (last_line Words) l.0 tried;
      }
  with_last (Line number) w l =
      let tried = behind_all (Line number) w.are_written.0 l in
      record {
        last = l.0;
        taken = taken_both (Line number) w l;
        is_written = (w.are_written.1, tried);
        counts = tried_faults before.faults after.faults (last_line (Line number)) l.0 tried;
      }
  with_last (Damaged file number) w l =
      let tried = behind_all (Damaged file number) w.are_written.0 l in
      record {
        last = l.0;
        taken = taken_both (Damaged file number) w l;
        is_written = (w.are_written.1, tried);
        counts = tried_faults before.faults after.faults (last_line (Damaged file number)) l.0 tried;
      }
  with_last Reply w l =
      let tried = behind_all Reply w.are_written.0 l in
      record {
        last = l.0;
        taken = taken_both Reply w l;
        is_written = (w.are_written.1, tried);
        counts = tried_faults before.faults after.faults (last_line Reply) l.0 tried;
      }
  with_last (TooLong length) w l =
      let tried = behind_all (TooLong length) w.are_written.0 l in
      record {
        last = l.0;
        taken = taken_both (TooLong length) w l;
        is_written = (w.are_written.1, tried);
        counts = tried_faults before.faults after.faults (last_line (TooLong length)) l.0 tried;
      }
