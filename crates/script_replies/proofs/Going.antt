-- The reading of a script goes on by one line.
use Rattle.std.proofs.Common.{◌≡◌, ◌+◌, ◌-◌, ◌⊎◌, inl, inr, ℕ, Bool, true, false, List, [], ◌∷◌, ◌++◌, length, Option}
use Rattle.std.proofs.Common.{Some, refl, sym, ap, ◌∙◌, subst, arith, append_assoc, append-nil, length-append}
use Rattle.desk_ports.specs.Content.{Took, ReadToEnd}
use Rattle.desk_ports.proofs.Readings.{Took-then, Took-nothing, ReadToEnd-then}
use Rattle.text_lines.specs.Lines.{HasNoNewline, AreWholeLines, pieces_of, lines_within}
use Rattle.text_lines.specs.LineReader.{LineReading, HandsOut, EndsReading}
use Rattle.line_script.specs.declared.steps.Step.{Step}
use Rattle.script_words.specs.declared.places.Place.{Place}
use Rattle.line_script.specs.Block.{Block, outside}
use Rattle.line_script.specs.Grammar.{step_at}
use Rattle.script_replies.specs.Script.{read_lines, read_script}
use Rattle.script_replies.specs.Limits.{most_line_bytes, most_script_bytes}
use Rattle.script_replies.specs.Reading.{Reads, Goes, Gives, IsOver, with_steps}
use Rattle.script_replies.proofs.Lines.{pieces_of-piece, line_of-piece, length-piece, read_lines-step, with_steps-step}
use Rattle.run_endings.proofs.Hads.{ReadToEnd-still}

-- the reading of a text before its first line
abbrev pub unread : LineReading
unread = record { line = []; number = 0; waiting = []; room = most_script_bytes; longest = most_line_bytes; is_ended = false }

-- nothing was read yet
pub goes_first : (place : Place) (left : Option (List ℕ)) (block : Block) → block ≡ outside place
    → (Kept : List Step → Type 0) → Kept []
    → Goes place left left block unread Kept
goes_first place left block is Kept kept = (
  record {
    lines = [];
    steps = [];
    took = Took-nothing left;
    whole = inl (inl refl);
    read = λ more may. ap (λ block. read_lines 1 block (lines_within most_script_bytes (pieces_of more))) (sym is);
    ended = λ ended. absurd (cc);
    longest = refl;
    within = omega arith;
  },
  kept,
)

module _ {place : Place} {left left_now : Option (List ℕ)} {block : Block} {reading : LineReading}
    (p : Reads place left left_now block reading) where
  -- where the source has given its end before, or gives it now
  pub ended_after : {left_after : Option (List ℕ)} (reading_after : LineReading)
      → EndsReading left_now left_after reading reading_after → (gives : Gives left_now left_after reading)
      → reading_after.is_ended ≡ true → ReadToEnd left left_after
  ended_after {left_after = left_after} reading_after ends gives ended = by_end reading.is_ended refl
    where
      by_end : (before : Bool) → reading.is_ended ≡ before → ReadToEnd left left_after
      by_end true is = ReadToEnd-still left left_now left_after gives.given (p.ended is) gives.took (gives.ended is)
      by_end false is = ReadToEnd-then left left_now left_after (p.lines ++ reading.waiting) p.took (ends is ended)

  module _ {left_after : Option (List ℕ)} {reading_after : LineReading} {next : Block} (step : Step)
      (line : HandsOut left_now left_after reading reading_after)
      (ends : EndsReading left_now left_after reading reading_after)
      (reads : step_at block reading_after.line ≡ Some (next, step)) where
    abbrev piece : List ℕ
    piece = line.handed_out.piece

    going : IsOver reading → ⊥
    going over =
        let handed = line.handed_out in
        let none = ap (λ given. reading.waiting ++ given) (line.ended over.0) ∙ (append-nil reading.waiting ∙ over.1) in
        omega (
          arith,
          ap length (sym handed.cut ∙ none),
          length-append piece reading_after.waiting,
          length-piece reading_after.line piece handed.line,
        )

    whole_after : AreWholeLines (p.lines ++ piece) ⊎ IsOver reading_after
    whole_after =
        let handed = line.handed_out in
        elim handed.line.1 [
          | inl whole ↦
              inl (inr (
                p.lines ++ reading_after.line,
                ap (λ piece. p.lines ++ piece) whole ∙ sym (append_assoc p.lines reading_after.line (10 ∷ [])),
              ))
          | inr same ↦ inr (handed.last (subst HasNoNewline (sym same.0) handed.line.0))
        ]

    took_after : Took left ((p.lines ++ piece) ++ reading_after.waiting) left_after
    took_after =
        let handed = line.handed_out in
        subst (λ bytes. Took left bytes left_after)
        (append_assoc p.lines reading.waiting line.given
        ∙ (ap (λ bytes. p.lines ++ bytes) handed.cut ∙ sym (append_assoc p.lines piece reading_after.waiting)))
        (Took-then left left_now left_after (p.lines ++ reading.waiting) line.given p.took line.took)

    end_after : reading_after.is_ended ≡ true → ReadToEnd left left_after
    end_after = ended_after reading_after ends (record { given = line.given; took = line.took; ended = line.ended })

    read_after : (more : List ℕ) → (IsOver reading_after → more ≡ [])
        → read_script place ((p.lines ++ piece) ++ more)
        ≡ with_steps (p.steps ++ step ∷ [])
        (read_lines (reading_after.number + 1) next (lines_within reading_after.room (pieces_of more)))
    read_after more may =
        let handed = line.handed_out in
        let pieces = pieces_of-piece reading_after.line piece more handed.line (λ none. may (handed.last none)) in
        let first = read_lines-step (reading.number + 1) reading.room block piece
        (pieces_of more) reading_after.line next step
        (line_of-piece reading_after.line piece handed.line) (omega (arith, handed.room))
        (omega (arith, handed.short, p.longest)) reads in
        let room : reading.room - length piece ≡ reading_after.room = omega (arith, handed.room) in
        ap (read_script place) (append_assoc p.lines piece more)
        ∙ (p.read (piece ++ more) (λ over. absurd (going over))
        ∙ (ap (λ pieces. with_steps p.steps (read_lines (reading.number + 1) block (lines_within reading.room pieces))) pieces
        ∙ (ap (with_steps p.steps) first
        ∙ (with_steps-step p.steps step _
        ∙ (ap (λ room. with_steps (p.steps ++ step ∷ []) (read_lines (reading.number + 1 + 1) next (lines_within room (pieces_of more)))) room
        ∙ ap (λ number. with_steps (p.steps ++ step ∷ [])
        (read_lines (number + 1) next (lines_within reading_after.room (pieces_of more))))
        (sym handed.number))))))

    -- one more line was read, and has this step
    pub goes_on : (Kept : List Step → Type 0) → Kept (p.steps ++ step ∷ [])
        → Goes place left left_after next reading_after Kept
    goes_on Kept kept =
        let handed = line.handed_out in (
          record {
            lines = p.lines ++ handed.piece;
            steps = p.steps ++ step ∷ [];
            took = took_after;
            whole = whole_after;
            read = read_after;
            ended = end_after;
            longest = handed.longest ∙ p.longest;
            within = omega (arith, p.within, handed.number, handed.room, length-piece reading_after.line handed.piece handed.line);
          },
          kept,
        )
