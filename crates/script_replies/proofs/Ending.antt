-- How the reading of a script ends: what the input was, and what of it was read.
use Rattle.std.proofs.Common.{◌≡◌, ◌<◌, ◌+◌, ◌⊎◌, inl, inr, ℕ, Bool, true, false, cond, List, [], ◌∷◌, ◌++◌, length}
use Rattle.std.proofs.Common.{Option, Some, None, Ok, Err, refl, sym, ap, ◌∙◌, subst, arith, append_assoc, append-nil}
use Rattle.desk_ports.specs.Content.{Took, ReadToEnd}
use Rattle.desk_ports.proofs.Readings.{Took-then, Took-nothing}
use Rattle.text_lines.specs.Lines.{HasNoNewline, pieces_of, lines_within, line_of}
use Rattle.text_lines.specs.LineReader.{LineReading, HandsOut, Keeps, Ends, EndsReading, GoesPast, IsUnfinished}
use Rattle.line_script.specs.Block.{Block}
use Rattle.line_script.specs.Grammar.{step_at}
use Rattle.line_script.specs.Turn.{is_in_block}
use Rattle.script_words.specs.declared.places.Place.{Place}
use Rattle.line_script.specs.declared.steps.Step.{Step}
use Rattle.script_replies.specs.Script.{read_lines, read_script, line_step, wrong_line}
use Rattle.script_replies.specs.Reading.{Reads, Gives, Has, IsOver, ReadsLines, ReadsAllLines, MeetsWrongLine}
use Rattle.script_replies.specs.Reading.{ReadsWhole, with_steps}
use Rattle.script_replies.proofs.Lines.{pieces_of-piece, line_of-piece, read_lines-past, read_lines-none}
use Rattle.script_replies.proofs.Lines.{line_step-none, stops_at}
use Rattle.script_replies.proofs.Going.{ended_after, goes_on}
use Rattle.run_endings.proofs.Hads.{Took-Had, ReadToEnd-still}

-- nothing was read
pub ends_unread : (place : Place) (left : Option (List ℕ))
    → Has left left (λ input rest. ReadsLines place input rest [])
ends_unread place left =
    let had = Took-Had left left [] (Took-nothing left) in (
      had.0,
      had.0,
      had.1,
      record { lines = []; behind = []; parts = refl; whole = inl (inl refl); right = refl; steps_are = refl },
    )

module _ {place : Place} {left left_now : Option (List ℕ)} {block : Block} {reading : LineReading}
    (p : Reads place left left_now block reading) where
  -- where the reading stands behind the lines
  read_is : read_script place p.lines
      ≡ record { steps = p.steps; stands = Ok (record { block = block; number = reading.number + 1 }) }
  read_is =
      ap (read_script place) (sym (append-nil p.lines))
      ∙ (p.read [] (λ over. refl)
      ∙ ap (λ steps. record { steps = steps; stands = Ok (record { block = block; number = reading.number + 1 }) })
      (append-nil p.steps))

  steps_are : p.steps ≡ (read_script place p.lines).steps
  steps_are = ap (λ script. script.steps) (sym read_is)

  module _ {left_after : Option (List ℕ)} (gives : Gives left_now left_after reading) where
    took_all : Took left (p.lines ++ (reading.waiting ++ gives.given)) left_after
    took_all =
        subst (λ bytes. Took left bytes left_after) (append_assoc p.lines reading.waiting gives.given)
        (Took-then left left_now left_after (p.lines ++ reading.waiting) gives.given p.took gives.took)

    nothing_behind : IsOver reading → reading.waiting ++ gives.given ≡ []
    nothing_behind over = ap (λ waiting. waiting ++ gives.given) over.1 ∙ gives.ended over.0

    end_when_over : IsOver reading → ReadToEnd left left_after
    end_when_over over = ReadToEnd-still left left_now left_after gives.given (p.ended over.0) gives.took
        (gives.ended over.0)

    -- what was read so far, where the source had these bytes left
    abbrev read_so_far : (rest : List ℕ) → (ReadToEnd left left_after → rest ≡ [])
        → ReadsLines place ((p.lines ++ (reading.waiting ++ gives.given)) ++ rest) rest p.steps
    read_so_far rest none =
        record {
          lines = p.lines;
          behind = reading.waiting ++ gives.given;
          parts = refl;
          whole =
              elim p.whole [
                | inl whole ↦ inl whole
                | inr over ↦ inr (ap (λ behind. behind ++ rest) (nothing_behind over) ∙ none (end_when_over over))
              ];
          right = rw read_is refl;
          steps_are = steps_are;
        }

    -- it ends behind these lines
    pub ends_there : Has left left_after (λ input rest. ReadsLines place input rest p.steps)
    ends_there =
        let had = Took-Had left left_after _ took_all in
        ((p.lines ++ (reading.waiting ++ gives.given)) ++ had.0, had.0, had.1, read_so_far had.0 had.2)

    -- what the script says, where its next line is wrong
    stops : (rest piece : List ℕ) (pieces : List (List ℕ)) → (ReadToEnd left left_after → rest ≡ [])
        → pieces_of ((reading.waiting ++ gives.given) ++ rest) ≡ piece ∷ pieces
        → read_lines (reading.number + 1) block (lines_within reading.room (piece ∷ pieces))
        ≡ stops_at (reading.number + 1)
        → read_script place ((p.lines ++ (reading.waiting ++ gives.given)) ++ rest)
        ≡ record { steps = p.steps; stands = Err (reading.number + 1) }
    stops rest piece pieces none first wrong =
        let behind = reading.waiting ++ gives.given in
        ap (read_script place) (append_assoc p.lines behind rest)
        ∙ (p.read (behind ++ rest) (λ over. ap (λ behind. behind ++ rest) (nothing_behind over) ∙ none (end_when_over over))
        ∙ (ap (λ pieces. with_steps p.steps (read_lines (reading.number + 1) block (lines_within reading.room pieces))) first
        ∙ (ap (with_steps p.steps) wrong
        ∙ ap (λ steps. record { steps = steps; stands = Err (reading.number + 1) }) (append-nil p.steps))))

  -- nothing was given since
  pub ends_now : Has left left_now (λ input rest. ReadsLines place input rest p.steps)
  ends_now = ends_there (record { given = []; took = Took-nothing left_now; ended = λ ended. refl })

  module _ {left_after : Option (List ℕ)} {reading_after : LineReading} where
    -- memory ran out
    pub ends_by_memory : Keeps left_now left_after reading reading_after
        → Has left left_after (λ input rest. ReadsLines place input rest p.steps)
    ends_by_memory kept = ends_there (record { given = kept.given; took = kept.took; ended = kept.ended })

    -- the line that was handed out is left aside
    pub ends_before_line : HandsOut left_now left_after reading reading_after
        → Has left left_after (λ input rest. ReadsLines place input rest p.steps)
    ends_before_line line = ends_there (record { given = line.given; took = line.took; ended = line.ended })

    -- the source failed
    pub ends_by_source : Keeps left_now left_after reading reading_after → IsUnfinished reading_after
        → Has left left_after (λ input rest. ReadsAllLines place input rest p.steps)
    ends_by_source kept unfinished =
        let gives : Gives left_now left_after reading = record { given = kept.given; took = kept.took; ended = kept.ended } in
        let had = Took-Had left left_after _ (took_all gives) in (
          (p.lines ++ (reading.waiting ++ kept.given)) ++ had.0,
          had.0,
          had.1,
          record {
            reads = read_so_far gives had.0 had.2;
            unfinished = subst HasNoNewline kept.waiting unfinished.no_newline;
            short = omega (arith, unfinished.short, ap length kept.waiting, kept.longest, p.longest);
          },
        )

    -- the next line is past a limit
    pub ends_past_limit : EndsReading left_now left_after reading reading_after
        → Keeps left_now left_after reading reading_after
        → GoesPast reading.longest reading.room reading_after.waiting → (number : ℕ) → number ≡ reading.number + 1
        → Has left left_after (MeetsWrongLine place number p.steps)
    ends_past_limit ends kept past number is =
        let gives : Gives left_now left_after reading = record { given = kept.given; took = kept.took; ended = kept.ended } in
        let had = Took-Had left left_after _ (took_all gives) in
        let long = past had.0 in
        let read = stops gives had.0 long.0 long.1 had.2
        (ap (λ behind. pieces_of (behind ++ had.0)) (sym kept.waiting) ∙ long.2)
        (read_lines-past (reading.number + 1) reading.room block long.0 long.1
        (subst (λ longest. (reading.room < length long.0) ⊎ (longest < length (line_of long.0))) p.longest long.3)) in (
          (p.lines ++ (reading.waiting ++ kept.given)) ++ had.0,
          had.0,
          had.1,
          record {
            wrong = ap wrong_line read ∙ ap Some (sym is);
            steps_are = ap (λ script. script.steps) (sym read);
            reads = read_so_far gives had.0 had.2;
          },
        )

    -- the next line has no step
    pub ends_at_line : (line : HandsOut left_now left_after reading reading_after)
        → EndsReading left_now left_after reading reading_after → step_at block reading_after.line ≡ None
        → (number : ℕ) → number ≡ reading_after.number
        → Has left left_after (MeetsWrongLine place number p.steps)
    ends_at_line line ends none number is =
        let handed = line.handed_out in
        let gives : Gives left_now left_after reading = record { given = line.given; took = line.took; ended = line.ended } in
        let had = Took-Had left left_after _ (took_all gives) in
        let follows = λ (no_newline : HasNoNewline handed.piece).
        let last = handed.last no_newline in
        ap (λ waiting. waiting ++ had.0) last.1 ∙ had.2 (ended_after p reading_after ends gives last.0) in
        let read = stops gives had.0 handed.piece (pieces_of (reading_after.waiting ++ had.0)) had.2
        (ap (λ behind. pieces_of (behind ++ had.0)) handed.cut
        ∙ (ap pieces_of (append_assoc handed.piece reading_after.waiting had.0)
        ∙ pieces_of-piece reading_after.line handed.piece (reading_after.waiting ++ had.0) handed.line follows))
        (read_lines-none (reading.number + 1) reading.room block handed.piece
        (pieces_of (reading_after.waiting ++ had.0))
        (ap (λ line. line_step block (Some line)) (line_of-piece reading_after.line handed.piece handed.line)
        ∙ line_step-none block reading_after.line none)) in (
          (p.lines ++ (reading.waiting ++ line.given)) ++ had.0,
          had.0,
          had.1,
          record {
            wrong = ap wrong_line read ∙ ap Some (sym handed.number ∙ sym is);
            steps_are = ap (λ script. script.steps) (sym read);
            reads = read_so_far gives had.0 had.2;
          },
        )

    -- no line is left
    module _ (ended : Ends left_now left_after reading reading_after) (ends : EndsReading left_now left_after reading reading_after) where
      abbrev at_end : Gives left_now left_after reading
      at_end = record { given = ended.kept.given; took = ended.kept.took; ended = ended.kept.ended }

      whole_input : (rest : List ℕ) → rest ≡ [] → (p.lines ++ (reading.waiting ++ ended.kept.given)) ++ rest ≡ p.lines
      whole_input rest none =
          ap (λ rest. (p.lines ++ (reading.waiting ++ ended.kept.given)) ++ rest) none
          ∙ (append-nil (p.lines ++ (reading.waiting ++ ended.kept.given))
          ∙ (ap (λ behind. p.lines ++ behind) (sym ended.kept.waiting ∙ ended.nothing) ∙ append-nil p.lines))

      -- in no block all lines are right, and else the one behind the last is wrong
      wrong_is : (inside : Bool) → is_in_block block ≡ inside
          → wrong_line (read_script place p.lines) ≡ cond inside (Some (reading.number + 1)) None
      wrong_is inside is =
          ap wrong_line read_is ∙ ap (λ inside. cond inside (Some (reading.number + 1)) None) is

      -- outside of a block
      pub ends_done : is_in_block block ≡ false
          → Has left left_after (ReadsWhole place p.steps)
      ends_done outside =
          let had = Took-Had left left_after _ (took_all at_end) in
          let rest = had.2 (ended_after p reading_after ends at_end ended.ended) in
          let input = whole_input had.0 rest in (
            (p.lines ++ (reading.waiting ++ ended.kept.given)) ++ had.0,
            had.0,
            had.1,
            record {
              over = rest;
              right = ap (λ input. wrong_line (read_script place input)) input ∙ wrong_is false outside;
              steps_are = steps_are ∙ ap (λ input. (read_script place input).steps) (sym input);
            },
          )

      -- within a block
      pub ends_in_block : is_in_block block ≡ true → (number : ℕ) → number ≡ reading_after.number + 1
          → Has left left_after (MeetsWrongLine place number p.steps)
      ends_in_block inside number is =
          let had = Took-Had left left_after _ (took_all at_end) in
          let input = whole_input had.0 (had.2 (ended_after p reading_after ends at_end ended.ended)) in (
            (p.lines ++ (reading.waiting ++ ended.kept.given)) ++ had.0,
            had.0,
            had.1,
            record {
              wrong =
                  ap (λ input. wrong_line (read_script place input)) input
                  ∙ (wrong_is true inside ∙ ap Some (ap (λ number. number + 1) (sym ended.kept.number) ∙ sym is));
              steps_are = steps_are ∙ ap (λ input. (read_script place input).steps) (sym input);
              reads = read_so_far at_end had.0 had.2;
            },
          )

-- it ends behind the next line, which has this step
pub ends_behind : {place : Place} {left left_now left_after : Option (List ℕ)} {block next : Block} {reading reading_after : LineReading}
    (p : Reads place left left_now block reading) (step : Step) → HandsOut left_now left_after reading reading_after
    → EndsReading left_now left_after reading reading_after → step_at block reading_after.line ≡ Some (next, step)
    → Has left left_after (λ input rest. ReadsLines place input rest (p.steps ++ step ∷ []))
ends_behind {place = place} {left = left} {left_after = left_after} p step line ends reads =
    let on = goes_on p step line ends reads (λ steps. steps ≡ p.steps ++ step ∷ []) refl in
    subst (λ steps. Has left left_after (λ input rest. ReadsLines place input rest steps)) on.1 (ends_now on.0)
