-- How the answering of a script ends, with what it keeps: of the folder, say. `Keeps` says it for each way to end, of
-- the steps that were answered and of those that were read.
use Rattle.std.proofs.Common.{◌≡◌, ◌+◌, inl, inr, ℕ, true, false, List, [], ◌∷◌, ◌++◌, take, Option, Err, refl, sym, ap}
use Rattle.std.proofs.Common.{◌∙◌, append_assoc, append-nil}
use Rattle.desk_ports.proofs.Appends.{Appended-none, Appended-then}
use Rattle.text_lines.specs.LineReader.{LineReading}
use Rattle.line_script.specs.Turn.{is_in_block}
use Rattle.script_words.specs.declared.places.Place.TheVariants.{Local}
use Rattle.desk_state.specs.DeskState.{DeskState}
use Rattle.line_script.specs.declared.steps.Step.{Step}
use Rattle.script_replies.specs.Script.{replies}
use Rattle.script_replies.specs.Reading.{Reads, Has, ReadsLines, MeetsWrongLine}
use Rattle.script_replies.proofs.Ending.{ends_unread, ends_there, ends_behind, ends_by_source, ends_past_limit}
use Rattle.script_replies.proofs.Ending.{ends_at_line, ends_done, ends_in_block}
use Rattle.local_runs.specs.parts.Local.{Hands, EndsScript, WantsMemory, StopsAtLine, FailsToRead, FailsToWrite}
use Rattle.local_runs.specs.parts.Local.{FailsNext, Turns}
use Rattle.local_runs.specs.parts.Progress.{Progress, Answers}
use Rattle.run_endings.specs.declared.endings.Ending.{Ending}
use Rattle.run_endings.specs.declared.endings.Ending.TheVariants.{Done, Memory, Words, Line, Source, Sink, Disk, Net}
use Rattle.run_endings.specs.declared.endings.Ending.TheVariants.{Damaged, Reply, TooLong}
use Rattle.local_runs.specs.declared.local_script.LocalScript.{LocalScript}
use Rattle.script_replies.proofs.Steps.{in-turn-none, in-turn-more}
use Rattle.run_endings.proofs.Trying.{IsCut-take}

module _ (Keeps : Ending → List Step → List Step → Type 0) (start : DeskState) where
  -- how a script is answered, and what is kept
  abbrev pub Ended : Ending → List ℕ → Option (List ℕ) → Option (List ℕ) → Option (List ℕ) → Option (List ℕ) → Type 0
  Ended ending waiting left left_after taken taken_after =
      (answers : Answers start ending waiting left left_after taken taken_after)
      × Keeps ending answers.answered answers.steps

  -- memory ran out before anything was read
  pub Answers-nothing : (left taken : Option (List ℕ)) (waiting : List ℕ) → waiting ≡ [] → Keeps Memory [] []
      → Ended Memory waiting left left taken taken
  Answers-nothing left taken waiting none keeps =
      let has = ends_unread Local left in (
        record {
          input = has.0;
          rest = has.1;
          steps = [];
          answered = [];
          written = [];
          had = has.2;
          read = has.3;
          are_answered = refl;
          in_turn = in-turn-none start [];
          appended = Appended-none taken;
          handed = sym none;
        },
        keeps,
      )

  module _ {left left_now taken taken_now : Option (List ℕ)} {now : LocalScript} {desk : DeskState} {reading : LineReading}
      (p : Reads Local left left_now now.reader reading) (a : Progress start taken taken_now now desk p.steps) where
    handed_so_far : {taken_after : Option (List ℕ)} {waiting : List ℕ}
        (hands : Hands taken_now taken_after now.answers waiting)
        → replies start [] p.steps ≡ (a.written ++ hands.handed) ++ waiting
    handed_so_far {waiting = waiting} hands =
        a.answered ∙ ap (λ answers. a.written ++ answers) hands.parts
        ∙ sym (append_assoc a.written hands.handed waiting)

    module _ {left_after taken_after : Option (List ℕ)} {new : LocalScript} {desk_after : DeskState} {reading_after : LineReading} where
      -- the script was read to its end
      module _ (e : EndsScript left_now left_after taken_now taken_after now new desk desk_after reading reading_after) where
        -- outside of a block
        pub Answers-done : is_in_block new.reader ≡ false → Keeps Done p.steps p.steps
            → Ended Done new.answers left left_after taken taken_after
        Answers-done outside keeps =
            let has = ends_done p e.ended e.ends (ap is_in_block (sym e.same.reader) ∙ outside) in (
              record {
                input = has.0;
                rest = has.1;
                steps = p.steps;
                answered = p.steps;
                written = a.written ++ now.answers;
                had = has.2;
                read = has.3;
                are_answered = refl;
                in_turn = in-turn-more start p.steps a.written now.answers a.in_turn;
                appended = Appended-then taken taken_now taken_after a.written now.answers a.appended e.appended;
                handed = (sym a.answered, e.nothing);
              },
              keeps,
            )

        -- within a block
        pub Answers-unended : (number : ℕ) → number ≡ reading_after.number + 1 → is_in_block new.reader ≡ true
            → Keeps (Line number) p.steps p.steps
            → Ended (Line number) new.answers left left_after taken taken_after
        Answers-unended number is inside keeps =
            let has = ends_in_block p e.ended e.ends (ap is_in_block (sym e.same.reader) ∙ inside) number is in (
              record {
                input = has.0;
                rest = has.1;
                steps = p.steps;
                answered = p.steps;
                written = a.written ++ now.answers;
                had = has.2;
                read = has.3;
                are_answered = refl;
                in_turn = in-turn-more start p.steps a.written now.answers a.in_turn;
                appended = Appended-then taken taken_now taken_after a.written now.answers a.appended e.appended;
                handed =
                    a.answered ∙ sym (append-nil (a.written ++ now.answers))
                    ∙ ap (λ waiting. (a.written ++ now.answers) ++ waiting) (sym e.nothing);
              },
              keeps,
            )

      -- memory ran out
      Answers-memory : WantsMemory left_now left_after taken_now taken_after now new desk desk_after reading reading_after
          → Keeps Memory p.steps p.steps → Ended Memory new.answers left left_after taken taken_after
      Answers-memory w keeps =
          let has = ends_there p w.gives in (
            record {
              input = has.0;
              rest = has.1;
              steps = p.steps;
              answered = p.steps;
              written = a.written ++ w.hands.handed;
              had = has.2;
              read = has.3;
              are_answered = refl;
              in_turn = in-turn-more start p.steps a.written w.hands.handed a.in_turn;
              appended = Appended-then taken taken_now taken_after a.written w.hands.handed a.appended w.hands.appended;
              handed = handed_so_far w.hands;
            },
            keeps,
          )

      -- the source failed
      Answers-source : FailsToRead left_now left_after taken_now taken_after now new desk desk_after reading reading_after
          → Keeps Source p.steps p.steps → Ended Source new.answers left left_after taken taken_after
      Answers-source f keeps =
          let has = ends_by_source p f.kept f.unfinished in (
            record {
              input = has.0;
              rest = has.1;
              steps = p.steps;
              answered = p.steps;
              written = a.written ++ now.answers;
              had = has.2;
              read = has.3;
              are_answered = refl;
              in_turn = in-turn-more start p.steps a.written now.answers a.in_turn;
              appended = Appended-then taken taken_now taken_after a.written now.answers a.appended f.appended;
              handed = (sym a.answered, f.nothing);
            },
            keeps,
          )

      -- the sink failed
      Answers-sink : FailsToWrite left_now left_after taken_now taken_after now new desk desk_after reading reading_after
          → Keeps Sink p.steps p.steps → Ended Sink new.answers left left_after taken taken_after
      Answers-sink f keeps =
          let has = ends_there p f.gives in
          let part = take f.appended.0 now.answers in
          let cut = IsCut-take f.appended.0 now.answers f.appended.1 in (
            record {
              input = has.0;
              rest = has.1;
              steps = p.steps;
              answered = p.steps;
              written = a.written ++ part;
              had = has.2;
              read = has.3;
              are_answered = refl;
              in_turn = in-turn-more start p.steps a.written part a.in_turn;
              appended = Appended-then taken taken_now taken_after a.written part a.appended f.appended.2;
              handed = (
                cut.0,
                cut.1,
                a.answered ∙ ap (λ answers. a.written ++ answers) cut.2
                    ∙ sym (append_assoc a.written part (cut.0 ∷ cut.1)),
              );
            },
            keeps,
          )

      -- a line is wrong
      Answers-line : (number : ℕ)
          → StopsAtLine left_now left_after taken_now taken_after now new desk desk_after reading reading_after number
          → Keeps (Line number) p.steps p.steps → Ended (Line number) new.answers left left_after taken taken_after
      Answers-line number m keeps =
          let has : Has left left_after (MeetsWrongLine Local number p.steps) =
          elim m.wrong [
            | inl past ↦ ends_past_limit p m.ends past.0 past.1 number m.number
            | inr none ↦ ends_at_line p none.0 m.ends none.1 number (m.number ∙ sym none.0.handed_out.number)
          ] in (
            record {
              input = has.0;
              rest = has.1;
              steps = p.steps;
              answered = p.steps;
              written = a.written ++ m.hands.handed;
              had = has.2;
              read = has.3;
              are_answered = refl;
              in_turn = in-turn-more start p.steps a.written m.hands.handed a.in_turn;
              appended = Appended-then taken taken_now taken_after a.written m.hands.handed a.appended m.hands.appended;
              handed = handed_so_far m.hands;
            },
            keeps,
          )

      -- the disk failed in the commit of the next line's command
      Answers-disk : (f : FailsNext left_now left_after taken_now taken_after now new desk desk_after reading reading_after)
          → Keeps Disk p.steps (p.steps ++ f.fails.step ∷ []) → Ended Disk new.answers left left_after taken taken_after
      Answers-disk f keeps =
          let fails = f.fails.fails in
          let step = f.fails.step in
          let has : Has left left_after (λ input rest. ReadsLines Local input rest (p.steps ++ step ∷ [])) =
          ends_behind p step f.line f.ends f.fails.reads in (
            record {
              input = has.0;
              rest = has.1;
              steps = p.steps ++ step ∷ [];
              answered = p.steps;
              written = a.written ++ now.answers;
              had = has.2;
              read = has.3;
              are_answered = (step, fails.command, refl, rw a.state fails.is, rw a.state fails.accepted);
              in_turn = in-turn-more start p.steps a.written now.answers a.in_turn;
              appended = Appended-then taken taken_now taken_after a.written now.answers a.appended fails.appended;
              handed = (sym a.answered, fails.nothing);
            },
            keeps,
          )

  -- what is kept at a turn that stops the run, behind these steps
  abbrev pub KeptAt : (left_now left_after taken_now taken_after : Option (List ℕ)) (now new : LocalScript)
      (desk desk_after : DeskState)
      (reading reading_after : LineReading) (steps : List Step) (ending : Ending)
      → Turns left_now left_after taken_now taken_after now new desk desk_after reading reading_after (Err ending)
      → Type 0
  KeptAt left_now left_after taken_now taken_after now new desk desk_after reading reading_after steps Disk turn =
      Keeps Disk steps (steps ++ turn.fails.step ∷ [])
  KeptAt left_now left_after taken_now taken_after now new desk desk_after reading reading_after steps ending turn =
      Keeps ending steps steps

  -- a turn that stops the run
  pub Answers-stopped : {left left_now left_after taken taken_now taken_after : Option (List ℕ)} {now : LocalScript}
      {desk : DeskState} {reading : LineReading} (p : Reads Local left left_now now.reader reading)
      (a : Progress start taken taken_now now desk p.steps)
      → (new : LocalScript) (desk_after : DeskState) (reading_after : LineReading) (ending : Ending)
      → (turn : Turns left_now left_after taken_now taken_after now new desk desk_after reading reading_after
      (Err ending))
      → KeptAt left_now left_after taken_now taken_after now new desk desk_after reading reading_after p.steps ending turn
      → Ended ending new.answers left left_after taken taken_after
  Answers-stopped p a new desk_after reading_after Done turn keeps = absurd turn
  Answers-stopped p a new desk_after reading_after Memory turn keeps = Answers-memory p a turn keeps
  Answers-stopped p a new desk_after reading_after Words turn keeps = absurd turn
  Answers-stopped p a new desk_after reading_after (Line number) turn keeps = Answers-line p a number turn keeps
  Answers-stopped p a new desk_after reading_after Source turn keeps = Answers-source p a turn keeps
  Answers-stopped p a new desk_after reading_after Sink turn keeps = Answers-sink p a turn keeps
  Answers-stopped p a new desk_after reading_after Disk turn keeps = Answers-disk p a turn keeps
  Answers-stopped p a new desk_after reading_after Net turn keeps = absurd turn
  Answers-stopped p a new desk_after reading_after Reply turn keeps = absurd turn
  Answers-stopped p a new desk_after reading_after (TooLong size) turn keeps = absurd turn
  Answers-stopped p a new desk_after reading_after (Damaged file line) turn keeps = absurd turn
