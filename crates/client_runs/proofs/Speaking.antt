-- What is said of an answer, and written of it.
use Rattle.std.proofs.Common.{◌≡◌, ℕ, List, [], take, Result, Ok, Err, inl, refl, sym, subst}
use Rattle.desk_ports.specs.Faults.{next_count}
use Rattle.desk_ports.specs.Content.{Appended, AppendedPart}
use Rattle.desk_ports.proofs.Appends.{Appended-none}
use Rattle.run_endings.specs.Outside.{SinkSeen}
use Rattle.run_endings.specs.Saying.{Said, silence, WritesAnswers}
use Rattle.run_endings.specs.declared.endings.Ending.{Ending}
use Rattle.run_endings.specs.declared.endings.Ending.TheVariants.{Done, Memory, Sink, Net, Reply}
use Rattle.run_endings.proofs.Trying.{IsCut-take}
use Rattle.cynara_client.specs.declared.refusals.Checked.{Checked}
use Rattle.cynara_client.specs.declared.refusals.ClientRefusal.{ClientRefusal}
use Rattle.cynara_client.specs.declared.refusals.ClientRefusal.TheVariants as refusal
use Rattle.client_runs.specs.AnswerLine.{line_of, GivesLine, GivesFrom, SaysLine, Says}

module _ (sink after : SinkSeen) where
  abbrev Spoken : Result (List ℕ) Ending → Ending → Type 0
  Spoken found ending = (said : Said) × SaysLine found said ending × WritesAnswers ending said sink after

  written-of : (found : Result (List ℕ) Ending) (line : List ℕ) → GivesFrom found (Ok line) → Appended sink.taken line after.taken
      → after.faults ≡ sink.faults → Spoken found Done
  written-of (Ok text) line gives taken count =
      (record { due = line; written = line }, gives, record { taken = taken; are_written = (count, refl) })
  written-of (Err wanted) line gives taken count = cc

  cut-of : (found : Result (List ℕ) Ending) (line : List ℕ) → GivesFrom found (Ok line) → AppendedPart sink.taken line after.taken
      → after.faults ≡ next_count sink.faults → Spoken found Sink
  cut-of (Ok text) line gives part count = (
    record { due = line; written = take part.0 line },
    gives,
    record { taken = part.2; are_written = (count, IsCut-take part.0 line part.1) },
  )
  cut-of (Err wanted) line gives part count = cc

  -- a run ends so that has no line
  abbrev IsPlain : Result (List ℕ) Ending → Type 0
  IsPlain (Ok text) = Unit {0}
  IsPlain (Err Net) = Unit {0}
  IsPlain (Err Reply) = Unit {0}
  IsPlain (Err Memory) = Unit {0}
  IsPlain (Err ending) = ⊥

  plain : (answer : Result Checked ClientRefusal) → IsPlain (line_of answer)
  plain (Ok checked) = tt
  plain (Err (refusal.NotResolved commit kind)) = tt
  plain (Err (refusal.NoAgent commit kind)) = tt
  plain (Err (refusal.AgentGone commit number)) = tt
  plain (Err (refusal.AgentFull commit kind most)) = tt
  plain (Err refusal.Unavailable) = tt
  plain (Err (refusal.Older told got)) = tt
  plain (Err (refusal.BadReply fault)) = tt
  plain (Err (refusal.Memory error)) = tt

  module _ (same : after.taken ≡ sink.taken) (count : after.faults ≡ sink.faults) where
    nothing : Appended sink.taken [] after.taken
    nothing = subst (Appended sink.taken []) (sym same) (Appended-none sink.taken)

    wanted-of : (wanted : Ending) → IsPlain (Err wanted) → Spoken (Err wanted) wanted
    wanted-of Net is = (silence, (refl, refl), record { taken = nothing; are_written = (count, refl) })
    wanted-of Reply is = (silence, (refl, refl), record { taken = nothing; are_written = (count, refl) })
    wanted-of Memory is = (silence, (refl, refl), record { taken = nothing; are_written = inl (count, refl) })
    wanted-of ending is = absurd is

    unwritten-of : (found : Result (List ℕ) Ending) (ending : Ending) → IsPlain found → GivesFrom found (Err ending)
        → Spoken found ending
    unwritten-of (Ok text) Memory is gives = (silence, refl, record { taken = nothing; are_written = inl (count, refl) })
    unwritten-of (Ok text) ending is gives = absurd gives
    unwritten-of (Err wanted) ending is gives =
        let same_ending : wanted ≡ ending = cc in
        subst (λ ending. Spoken (Err wanted) ending) same_ending (wanted-of wanted is)

    pub says-none : (answer : Result Checked ClientRefusal) (ending : Ending) → GivesLine answer (Err ending)
        → (said : Said) × Says answer said ending × WritesAnswers ending said sink after
    says-none answer ending gives = unwritten-of (line_of answer) ending (plain answer) gives

  pub says-written : (answer : Result Checked ClientRefusal) (line : List ℕ) → GivesLine answer (Ok line)
      → Appended sink.taken line after.taken → after.faults ≡ sink.faults
      → (said : Said) × Says answer said Done × WritesAnswers Done said sink after
  says-written answer line gives taken count = written-of (line_of answer) line gives taken count

  pub says-cut : (answer : Result Checked ClientRefusal) (line : List ℕ) → GivesLine answer (Ok line)
      → AppendedPart sink.taken line after.taken → after.faults ≡ next_count sink.faults
      → (said : Said) × Says answer said Sink × WritesAnswers Sink said sink after
  says-cut answer line gives part count = cut-of (line_of answer) line gives part count
