-- The whole script, from its parts, and what is said of it.
use Rattle.std.proofs.Common.{◌≡◌, ℕ, List, [], ◌++◌, Option, Some, None, Result, Ok, Err, inl, option_and_then, refl}
use Rattle.std.proofs.Common.{sym, ap, ◌∙◌, subst, append-nil}
use Rattle.std.specs.Option.{option_map}
use Rattle.desk_ports.proofs.Appends.{Appended-none}
use Rattle.bucket_store.specs.Database.{Database}
use Rattle.desk_state.specs.DeskState.{fresh}
use Rattle.line_script.specs.Block.{Block, outside}
use Rattle.script_words.specs.declared.places.Place.TheVariants.{Local}
use Rattle.run_endings.specs.Outside.{SinkSeen}
use Rattle.run_endings.specs.Saying.{Said, silence, WritesAnswers}
use Rattle.run_endings.specs.declared.endings.Ending.{Ending}
use Rattle.run_endings.specs.declared.endings.Ending.TheVariants.{Memory, Line}
use Rattle.sample_runs.specs.Lines.{opening, installs, denials, commands, checks, questions}
use Rattle.sample_runs.specs.Sample.{Stand, each_line, follow_line, Asked, none_asked, ask_line, prepared, Outcome}
use Rattle.sample_runs.specs.Sample.{outcome_at, outcome}
use Rattle.sample_runs.specs.SampleRun.{RunsSample}
use Rattle.sample_runs.specs.parts.Following.{StopsAt, Goes}
use Rattle.sample_runs.specs.declared.tallies.Tally.{Tally}
use Rattle.sample_runs.proofs.Going.{stops-then}

-- ---- the commands

abbrev start : Stand
start = record { block = outside Local; desk = fresh }

module _ (count : ℕ) (first : Stand) (begins : first ≡ start) where
  begin : prepared count ≡ each_line follow_line (commands count) first
  begin = ap (each_line follow_line (commands count)) (sym begins)

  pub prepare-unopened : (second : Stand) (ending : Ending) → Goes follow_line opening first second (Err ending)
      → StopsAt (prepared count) ending
  prepare-unopened second ending stops =
      subst (λ (next : Option Stand). StopsAt next ending) (sym begin) (stops (installs 0 count ++ denials 0 count))

  module _ (second : Stand) (opens : Goes follow_line opening first second (Ok tt)) where
    opened : prepared count ≡ each_line follow_line (installs 0 count ++ denials 0 count) second
    opened = begin ∙ opens (installs 0 count ++ denials 0 count)

    pub prepare-uninstalled : (third : Stand) (ending : Ending)
        → Goes follow_line (installs 0 count) second third (Err ending)
        → StopsAt (prepared count) ending
    prepare-uninstalled third ending stops =
        subst (λ (next : Option Stand). StopsAt next ending) (sym opened) (stops (denials 0 count))

    module _ (third : Stand) (installed : Goes follow_line (installs 0 count) second third (Ok tt)) where
      all_installed : prepared count ≡ each_line follow_line (denials 0 count ++ []) third
      all_installed =
          opened ∙ (installed (denials 0 count) ∙ ap (λ lines. each_line follow_line lines third)
          (sym (append-nil (denials 0 count))))

      pub prepare-undenied : (last : Stand) (ending : Ending)
          → Goes follow_line (denials 0 count) third last (Err ending)
          → StopsAt (prepared count) ending
      prepare-undenied last ending stops =
          subst (λ (next : Option Stand). StopsAt next ending) (sym all_installed) (stops [])

      pub prepares : (last : Stand) → Goes follow_line (denials 0 count) third last (Ok tt) → prepared count ≡ Some last
      prepares last denied = all_installed ∙ denied []

-- ---- the questions

abbrev tally_of : Asked → Tally
tally_of asked = asked.tally

stops-map : {A B : Type 0} (f : A → B) (next : Option A) (ending : Ending) → StopsAt next ending
    → StopsAt (option_map f next) ending
stops-map f next Memory stops = tt
stops-map f next (Line number) stops = ap (option_map f) stops
stops-map f next ending stops = absurd stops

module _ (database : Database) (count : ℕ) (block : Block) (first last : Asked) (begins : first ≡ none_asked block) where
  asking : each_line (ask_line database) (questions count) (none_asked block)
      ≡ each_line (ask_line database) (checks 0 count ++ []) first
  asking =
      ap (each_line (ask_line database) (questions count)) (sym begins)
      ∙ ap (λ lines. each_line (ask_line database) lines first) (sym (append-nil (checks 0 count)))

  pub asks-through : Goes (ask_line database) (checks 0 count) first last (Ok tt)
      → option_map (λ asked. asked.tally) (each_line (ask_line database) (questions count) (none_asked block))
      ≡ Some last.tally
  asks-through goes = ap (option_map tally_of) (asking ∙ goes [])

  pub asks-stops : (ending : Ending) → Goes (ask_line database) (checks 0 count) first last (Err ending)
      → StopsAt (option_map (λ asked. asked.tally)
      (each_line (ask_line database) (questions count) (none_asked block))) ending
  asks-stops ending stops =
      stops-map tally_of (each_line (ask_line database) (questions count) (none_asked block)) ending
      (subst (λ (next : Option Asked). StopsAt next ending) (sym asking) (stops []))

-- ---- the outcome

abbrev outcome_of : ℕ → Tally → Outcome
outcome_of commits tally = record { commits = commits; tally = tally }

outcome-map : (commits : ℕ) (tally : Tally) (next : Option Asked) → option_map tally_of next ≡ Some tally
    → option_map (λ (asked : Asked). outcome_of commits asked.tally) next ≡ Some (outcome_of commits tally)
outcome-map commits tally None is = cc
outcome-map commits tally (Some asked) is = ap (option_map (outcome_of commits)) is

outcome-stops : (commits : ℕ) (next : Option Asked) (ending : Ending) → StopsAt (option_map tally_of next) ending
    → StopsAt (option_map (λ (asked : Asked). outcome_of commits asked.tally) next) ending
outcome-stops commits None Memory stops = tt
outcome-stops commits None (Line number) stops = refl
outcome-stops commits None ending stops = absurd stops
outcome-stops commits (Some asked) Memory stops = tt
outcome-stops commits (Some asked) (Line number) stops = cc
outcome-stops commits (Some asked) ending stops = absurd stops

module _ (count : ℕ) where
  -- the script stops in its commands
  pub outcome-unprepared : (ending : Ending) → StopsAt (prepared count) ending → StopsAt (outcome count) ending
  outcome-unprepared ending stops = stops-then (outcome_at count) (prepared count) ending stops

  module _ (stand : Stand) (prepares : prepared count ≡ Some stand) where
    abbrev answers : Option Asked
    answers = each_line (ask_line stand.desk.database) (questions count) (none_asked stand.block)

    comes : outcome count ≡ outcome_at count stand
    comes = ap (option_and_then (outcome_at count)) prepares

    -- it stops in its questions
    pub outcome-unasked : (ending : Ending) → StopsAt (option_map (λ asked. asked.tally) answers) ending
        → StopsAt (outcome count) ending
    outcome-unasked ending stops =
        subst (λ (next : Option Outcome). StopsAt next ending) (sym comes)
        (outcome-stops stand.desk.commit answers ending stops)

    pub outcome-is : (tally : Tally) → option_map (λ asked. asked.tally) answers ≡ Some tally
        → outcome count ≡ Some (record { commits = stand.desk.commit; tally = tally })
    outcome-is tally asked = comes ∙ outcome-map stand.desk.commit tally answers asked

-- ---- the run

-- nothing is said of a script that stops
pub unsaid : (count : ℕ) (sink : SinkSeen) (ending : Ending) → StopsAt (outcome count) ending
    → (said : Said) × RunsSample count said ending × WritesAnswers ending said sink sink
unsaid count sink Memory stops =
    (silence, refl, record { taken = Appended-none sink.taken; are_written = inl (refl, refl) })
unsaid count sink (Line number) stops =
    (silence, (stops, refl), record { taken = Appended-none sink.taken; are_written = (refl, refl) })
unsaid count sink ending stops = absurd stops
