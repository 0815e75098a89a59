-- A run of `smack-access`: what its parts read and wrote, put together.
use Rattle.std.proofs.Common.{◌≡◌, ◌++◌, [], ℕ, Bool, true, false, nat_lt, List, length, take, Option, Err, inl, inr}
use Rattle.std.proofs.Common.{refl, sym, ap, ◌∙◌, subst, arith, length-append}
use Rattle.std.proofs.lemmas.Bool.{ltb-true, ltb-false}
use Rattle.desk_ports.specs.Content.{ReadToEnd, Appended}
use Rattle.desk_ports.proofs.Appends.{Appended-none}
use Rattle.smack_rules.specs.declared.modes.Modes.{Modes}
use Rattle.smack_rules.specs.Decision.{decision}
use Rattle.run_endings.specs.Ending.{source_faults_after}
use Rattle.run_endings.specs.Outside.{SourceSeen}
use Rattle.run_endings.specs.Saying.{Said, silence, WritesAnswers}
use Rattle.access_runs.specs.AccessRun.{IsDecided, IsReadThrough, RunsAccess}
use Rattle.line_answers.specs.Answers.{decided_text}
use Rattle.access_runs.specs.parts.Access.{IsRead, IsWrongAt, AreRead, IsWrongInput, ReadsRules, WritesAnswer}
use Rattle.access_runs.specs.parts.Access.{counts_sink}
use Rattle.access_runs.specs.Limits.{most_rules_bytes}
use Rattle.run_endings.specs.declared.endings.Ending.{Ending}
use Rattle.run_endings.specs.declared.endings.Ending.TheVariants.{Done, Memory, Words, Line, Source, Sink, Disk, Net}
use Rattle.run_endings.specs.declared.endings.Ending.TheVariants.{Damaged, Reply, TooLong}
use Rattle.run_endings.proofs.Hads.{Took-Had}
use Rattle.run_endings.proofs.Trying.{IsCut-take}

module _ (left left_after : Option (List ℕ)) (text : List ℕ) (read : IsRead left left_after text) where
  pub IsWrongInput-text : (number : ℕ) → IsWrongAt text number → IsWrongInput left left_after number
  IsWrongInput-text number wrong =
      let had = Took-Had left left_after text read.took in
      let through = either (nat_lt most_rules_bytes (length text)) refl had.0 had.2 in
      record {
        input = text ++ had.0;
        rest = had.0;
        had = had.1;
        through = through;
        wrong = wrong had.0 (λ within. had.2 (read.end within));
      }
    where
      either : (past : Bool) → nat_lt most_rules_bytes (length text) ≡ past → (rest : List ℕ)
          → (ReadToEnd left left_after → rest ≡ [])
          → IsReadThrough (text ++ rest) rest
      either true is rest none = inr
          (omega (arith, ltb-true most_rules_bytes (length text) is, length-append text rest))
      either false is rest none = inl (none (read.end (ltb-false most_rules_bytes (length text) is)))

module _ (source source_after : SourceSeen) (taken taken_after : Option (List ℕ)) (faults faults_after : ℕ)
    (subject object : List ℕ) (asked : Modes) where
  abbrev Run : Ending → Type 0
  Run ending =
      (said : Said) × RunsAccess subject object asked said ending source source_after
      × WritesAnswers ending said (record { taken = taken; faults = faults })
      (record { taken = taken_after; faults = faults_after })

  -- nothing was written
  silent : taken_after ≡ taken → Appended taken [] taken_after
  silent same = subst (Appended taken []) (sym same) (Appended-none taken)

  -- the rules were not read, and nothing was written
  pub Reads-unread : (ending : Ending) → ReadsRules source.left source_after.left subject object (Err ending)
      → taken_after ≡ taken → faults_after ≡ faults → Run ending
  Reads-unread Done rules same count = absurd rules
  Reads-unread Words rules same count = absurd rules
  Reads-unread Sink rules same count = absurd rules
  Reads-unread Disk rules same count = absurd rules
  Reads-unread Net rules same count = absurd rules
  Reads-unread (Damaged file line) rules same count = absurd rules
  Reads-unread Reply rules same count = absurd rules
  Reads-unread (TooLong size) rules same count = absurd rules
  Reads-unread (Line number) rules same count = (
    silence,
    record { input = rules.input; rest = rules.rest; had = rules.had; answered = (rules.through, rules.wrong, refl) },
    record { taken = silent same; are_written = (count, refl) },
  )
  Reads-unread Memory rules same count =
      let had = Took-Had source.left source_after.left rules.0 rules.1 in (
        silence,
        record { input = rules.0 ++ had.0; rest = had.0; had = had.1; answered = refl },
        record { taken = silent same; are_written = inl (count, refl) },
      )
  Reads-unread Source rules same count =
      let had = Took-Had source.left source_after.left rules.0 rules.1 in (
        silence,
        record { input = rules.0 ++ had.0; rest = had.0; had = had.1; answered = refl },
        record { taken = silent same; are_written = (count, refl) },
      )

  module _ (granted : Modes) (read : AreRead source.left source_after.left subject object granted) (text : List ℕ)
      (decided : text ≡ decided_text (decision subject object asked granted)) where
    is_decided : IsDecided subject object asked read.input [] text
    is_decided =
        record {
          rules = read.rules;
          read = refl;
          right = read.right;
          answered = decided ∙ ap (λ granted. decided_text (decision subject object asked granted)) read.grants;
        }

    pub Reads-written : Appended taken text taken_after → faults_after ≡ faults → Run Done
    Reads-written all count = (
      record { due = text; written = text },
      record { input = read.input; rest = []; had = read.had; answered = is_decided },
      record { taken = all; are_written = (count, refl) },
    )

    pub Reads-unwritten : (ending : Ending) → WritesAnswer taken taken_after text (Err ending)
        → faults_after ≡ counts_sink {A = Unit {0}} (Err ending) faults → Run ending
    Reads-unwritten Done writes count = absurd writes
    Reads-unwritten Words writes count = absurd writes
    Reads-unwritten Source writes count = absurd writes
    Reads-unwritten (Line number) writes count = absurd writes
    Reads-unwritten Disk writes count = absurd writes
    Reads-unwritten Net writes count = absurd writes
    Reads-unwritten (Damaged file line) writes count = absurd writes
    Reads-unwritten Reply writes count = absurd writes
    Reads-unwritten (TooLong size) writes count = absurd writes
    Reads-unwritten Memory writes count = (
      silence,
      record { input = read.input; rest = []; had = read.had; answered = refl },
      record { taken = silent writes; are_written = inl (count, refl) },
    )
    Reads-unwritten Sink writes count = (
      record { due = text; written = take writes.0 text },
      record { input = read.input; rest = []; had = read.had; answered = is_decided },
      record { taken = writes.2; are_written = (count, IsCut-take writes.0 text writes.1) },
    )

-- the source's count behind an answer that was not written
pub unwritten-source : (taken taken_after : Option (List ℕ)) (text : List ℕ) (ending : Ending) (count : ℕ)
    → WritesAnswer taken taken_after text (Err ending) → count ≡ source_faults_after ending count
unwritten-source taken taken_after text Source count writes = absurd writes
unwritten-source taken taken_after text ending count writes = refl
