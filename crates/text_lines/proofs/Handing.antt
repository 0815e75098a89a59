-- A line is handed out from what waits.
use Rattle.std.proofs.Common.{◌≡◌, ◌<◌, ◌≤◌, ◌+◌, ◌||◌, inl, inr, ℕ, Bool, true, false, length, List, [], ◌∷◌, ◌++◌, take, drop, Option, Result, Ok, Err, ap, ◌∙◌, subst, sym, arith, append_assoc, append-nil, length-append}
use Rattle.std.proofs.Math.Seq.{take-length}
use Rattle.std.proofs.lemmas.List.{length-take-le, drop_all}
use Rattle.text_lines.specs.Lines.{HasNoNewline}
use Rattle.text_lines.specs.LineReader.{LineReading, Keeps, IsHandedOut, HandsOutNext, followed_by, needs_no_reading}
use Rattle.text_lines.specs.parts.Gathering.{IsCut, HandsOutWaiting}
use Rattle.text_lines.specs.declared.refusal.ReadRefusal.{ReadRefusal}
use Rattle.text_lines.specs.declared.refusal.ReadRefusal.TheVariants.{PastLimit, Source, Memory}
use Rattle.text_lines.proofs.Gatherings.{Gathers-past}
use Rattle.text_lines.proofs.Newlines.{list_any-newline, list_any-none}

-- bytes with a newline at their end have one
newline_there : (line : List ℕ) → HasNoNewline (line ++ 10 ∷ []) → ⊥
newline_there line none =
    let there = list_any-newline line [] in
    let not_there = list_any-none (line ++ 10 ∷ []) none in
    cc

module _ (old new : LineReading) (line piece : ℕ)
    (cut : IsCut old.waiting line piece)
    (some : 0 < piece)
    (is_line : new.line ≡ take line old.waiting)
    (is_waiting : new.waiting ≡ drop piece old.waiting)
    (number : new.number ≡ old.number + 1)
    (room : new.room + piece ≡ old.room)
    (short : line ≤ old.longest)
    (longest : new.longest ≡ old.longest)
    (ready : needs_no_reading old ≡ true)
    (ended : new.is_ended ≡ old.is_ended) where
  whole_line : (old.waiting ≡ take line old.waiting ++ 10 ∷ drop piece old.waiting) → piece ≡ line + 1
      → line < length old.waiting → IsHandedOut old new
  whole_line parts size within =
      let count = length-take-le line old.waiting (omega arith) in
      record {
        piece = take line old.waiting ++ 10 ∷ [];
        cut = parts ∙ (sym (append_assoc (take line old.waiting) (10 ∷ []) (drop piece old.waiting))
            ∙ ap (λ rest. (take line old.waiting ++ 10 ∷ []) ++ rest) (sym is_waiting));
        line = (subst HasNoNewline (sym is_line) cut.no_newline, inl (ap (λ bytes. bytes ++ 10 ∷ []) (sym is_line)));
        last = λ none. absurd (newline_there (take line old.waiting) none);
        number = number;
        room = omega (arith, length-append (take line old.waiting) (10 ∷ []), count);
        short = omega (arith, ap length is_line, count);
        longest = longest;
      }

  last_line : line ≡ length old.waiting → piece ≡ line → IsHandedOut old new
  last_line all size =
      let is_all : take line old.waiting ≡ old.waiting = ap (λ n. take n old.waiting) all ∙ take-length old.waiting in
      let same : new.line ≡ old.waiting = is_line ∙ is_all in
      let none = subst HasNoNewline is_all cut.no_newline in
      let nothing : new.waiting ≡ [] = is_waiting ∙ drop_all piece old.waiting (omega arith) in
      record {
        piece = old.waiting;
        cut = sym (append-nil old.waiting) ∙ ap (λ rest. old.waiting ++ rest) (sym nothing);
        line = (
          subst HasNoNewline (sym same) none,
          inr (sym same, λ empty. absurd (omega (arith, ap length (sym same ∙ empty)))),
        );
        last = λ _. (ended ∙ (sym (ap (λ b. b || old.is_ended) (list_any-none old.waiting none)) ∙ ready), nothing);
        number = number;
        room = omega arith;
        short = omega (arith, ap length same);
        longest = longest;
      }

  pub IsHandedOut-cut : IsHandedOut old new
  IsHandedOut-cut = elim cut.either [ inl whole ↦ whole_line whole.0 whole.1 whole.2 | inr last ↦ last_line last.0 last.1 ]

-- the line is handed out from what waited before the reading, and what was read behind it
followed : {left left_after : Option (List ℕ)} {old now new : LineReading} → (kept : Keeps left left_after old now)
    → IsHandedOut now new → IsHandedOut (followed_by old kept.given) new
followed kept handed =
    record {
      piece = handed.piece;
      cut = sym kept.waiting ∙ handed.cut;
      line = handed.line;
      last = handed.last;
      number = handed.number ∙ ap (λ n. n + 1) kept.number;
      room = handed.room ∙ kept.room;
      short = omega (arith, handed.short, kept.longest);
      longest = handed.longest ∙ kept.longest;
    }

-- a line is handed out where one was read, or not
pub HandsOutNext-gathered : {left left_after : Option (List ℕ)} {old now : LineReading} (new : LineReading)
    → (result : Result Bool ReadRefusal)
    → Keeps left left_after old now → HandsOutWaiting now new result → HandsOutNext left left_after old new result
HandsOutNext-gathered new (Ok true) kept waiting =
    record { given = kept.given; took = kept.took; ended = kept.ended; handed_out = followed kept waiting.0 }
HandsOutNext-gathered {left = left} {left_after = after} {old = old} new (Ok false) kept waiting =
    record {
      kept = subst (λ new. Keeps left after old new) (sym waiting.0) kept;
      nothing = ap (λ reading. reading.waiting) waiting.0 ∙ waiting.1;
      ended = ap (λ reading. reading.is_ended) waiting.0 ∙ waiting.2;
    }
HandsOutNext-gathered {left = left} {left_after = after} {old = old} new (Err (PastLimit number)) kept waiting =
    subst (λ new. HandsOutNext left after old new (Err (PastLimit number))) (sym waiting.0)
    (Gathers-past (PastLimit number) kept waiting.1)
HandsOutNext-gathered new (Err Source) kept waiting = absurd waiting.1
HandsOutNext-gathered new (Err (Memory error)) kept waiting = absurd waiting.1
