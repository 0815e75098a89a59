-- Mode words that may be asked for.
use Rattle.std.proofs.Common.{◌≡◌, ℕ, Bool, true, false, not, cond, ◌&&◌, ◌||◌, List, [], ◌∷◌, ◌++◌, inl, inr, length}
use Rattle.std.proofs.Common.{Some, None, refl, sym, ap, ◌∙◌, append-nil, arith, length-append}
use Rattle.std.specs.Prelude.{◌==◌, nat_le, nat_lt, is_some}
use Rattle.std.specs.List.{list_all}
use Rattle.std.specs.Char.{to_ascii_lowercase}
use Rattle.std.proofs.lemmas.Bool.{and_parts, and_from, or_cases, or_left, or_right, or_parts, or_from, ltb-true}
use Rattle.std.proofs.lemmas.Bool.{lt-ltb, le-leb, leb-true, not_from_false, not-true}
use Rattle.std.proofs.lemmas.List.Folds.{list_all-append, list_any-append}
use Rattle.smack_rules.specs.Modes.{is_mode_byte, is_mode_word, letters_that, stands_in, is_empty, is_request}
use Rattle.smack_rules.specs.declared.modes.Modes.{Modes}
use Rattle.script_words.specs.Words.{◌>>=◌}
use Rattle.script_words.specs.WordForms.{request_at}
use Rattle.line_reasons.specs.parts.Forms.{begins_modes, begins_request}
use Rattle.line_reasons.proofs.Fronts.{Fronts}
use Rattle.line_reasons.proofs.Runs.{run-front}

-- the letters of a word
letters : List ℕ → Modes
letters text = letters_that (stands_in text)

asked : (word : Bool) (modes : Modes)
    → is_some (cond word (Some modes) None >>= (λ modes. cond (is_request modes) (Some modes) None))
    ≡ word && is_request modes
asked false modes = refl
asked true modes = by_case (is_request modes) where
  by_case : (b : Bool) → is_some (cond b (Some modes) None) ≡ b
  by_case true = refl
  by_case false = refl

pub request_is : (text : List ℕ) → is_some (request_at text)
    ≡ is_mode_word text && (not (is_empty (letters_that (stands_in text))) && not (stands_in text 98))
request_is text = asked (is_mode_word text) (letters_that (stands_in text))

-- what a request is, part by part
record IsRequest (text : List ℕ) : Type 0 where
  some : nat_le 1 (length text) ≡ true
  run : begins_modes text ≡ true
  letter : is_empty (letters_that (stands_in text)) ≡ false
  plain : stands_in text 98 ≡ false

request_parts : (text : List ℕ) → is_some (request_at text) ≡ true → IsRequest text
request_parts text is =
    let all = and_parts (is_mode_word text) (not (is_empty (letters_that (stands_in text))) && not (stands_in text 98))
    (sym (request_is text) ∙ is) in
    let ends = and_parts (not (is_empty (letters_that (stands_in text)))) (not (stands_in text 98)) all.1 in
    let word = and_parts (nat_le 1 (length text) && nat_le (length text) 64) (list_all is_mode_byte text) all.0 in
    let short = and_parts (nat_le 1 (length text)) (nat_le (length text) 64) word.0 in
    record {
      some = short.0;
      run = and_from (nat_le (length text) 64) (list_all is_mode_byte text) short.1 word.1;
      letter = not-true (is_empty (letters_that (stands_in text))) ends.0;
      plain = not-true (stands_in text 98) ends.1;
    }

request_from : (text : List ℕ) → IsRequest text → is_some (request_at text) ≡ true
request_from text is =
    let run = and_parts (nat_le (length text) 64) (list_all is_mode_byte text) is.run in
    request_is text
    ∙ and_from (is_mode_word text) (not (is_empty (letters_that (stands_in text))) && not (stands_in text 98))
    (and_from (nat_le 1 (length text) && nat_le (length text) 64) (list_all is_mode_byte text)
    (and_from (nat_le 1 (length text)) (nat_le (length text) 64) is.some run.0) run.1)
    (and_from (not (is_empty (letters_that (stands_in text)))) (not (stands_in text 98))
    (not_from_false (is_empty (letters_that (stands_in text))) is.letter) (not_from_false (stands_in text 98) is.plain))

plain_front : (front rest : List ℕ) → stands_in (front ++ rest) 98 ≡ false → stands_in front 98 ≡ false
plain_front front rest is =
    (or_parts (stands_in front 98) (stands_in rest 98)
    (sym (list_any-append (λ byte. to_ascii_lowercase byte == 98) front rest) ∙ is)).0

-- a front without a letter has room for one
room : (front rest : List ℕ) → IsRequest (front ++ rest)
    → not (is_empty (letters_that (stands_in front))) || nat_lt (length front) 64 ≡ true
room front [] is =
    or_left (not (is_empty (letters_that (stands_in front)))) (nat_lt (length front) 64)
    (not_from_false (is_empty (letters_that (stands_in front)))
    (ap (λ text. is_empty (letters_that (stands_in text))) (sym (append-nil front)) ∙ is.letter))
room front (byte ∷ rest) is =
    let short = and_parts (nat_le (length (front ++ byte ∷ rest)) 64)
    (list_all is_mode_byte (front ++ byte ∷ rest)) is.run in
    let most = leb-true (length (front ++ byte ∷ rest)) 64 short.0 in
    or_right (not (is_empty (letters_that (stands_in front)))) (nat_lt (length front) 64)
    (lt-ltb (length front) 64 (omega (arith, most, length-append front (byte ∷ rest))))

front_of : (front rest : List ℕ) → is_some (request_at (front ++ rest)) ≡ true → begins_request front ≡ true
front_of front rest is =
    let parts = request_parts (front ++ rest) is in
    and_from (begins_modes front && not (stands_in front 98))
    (not (is_empty (letters_that (stands_in front))) || nat_lt (length front) 64)
    (and_from (begins_modes front) (not (stands_in front 98)) (run-front 64 is_mode_byte front rest parts.run)
    (not_from_false (stands_in front 98) (plain_front front rest parts.plain)))
    (room front rest parts)

has_read : (modes : Modes) → modes.read ≡ true → is_empty modes ≡ false
has_read modes is =
    ap (λ read. not (read || modes.write || modes.execute || modes.append || modes.transmute || modes.lock || modes.bring_up)) is

on_letter : (front : List ℕ) → begins_modes front ≡ true → stands_in front 98 ≡ false
    → is_empty (letters_that (stands_in front)) ≡ false
    → (rest : List ℕ) × (is_some (request_at (front ++ rest)) ≡ true)
on_letter [] run plain letter = cc
on_letter (byte ∷ bytes) run plain letter =
    let parts : IsRequest (byte ∷ bytes) = record { some = le-leb 1 (length (byte ∷ bytes)) (omega arith); run = run; letter = letter; plain = plain } in
    ([], ap (λ text. is_some (request_at text)) (append-nil (byte ∷ bytes)) ∙ request_from (byte ∷ bytes) parts)

on_room : (front : List ℕ) → begins_modes front ≡ true → stands_in front 98 ≡ false → nat_lt (length front) 64 ≡ true
    → (rest : List ℕ) × (is_some (request_at (front ++ rest)) ≡ true)
on_room front run plain short =
    let text = front ++ 114 ∷ [] in
    let below = ltb-true (length front) 64 short in
    let all = and_parts (nat_le (length front) 64) (list_all is_mode_byte front) run in
    let grown = length-append front (114 ∷ []) in
    let some : nat_le 1 (length text) ≡ true = le-leb 1 (length text) (omega (arith, grown)) in
    let fits : nat_le (length text) 64 ≡ true = le-leb (length text) 64 (omega (arith, grown, below)) in
    let bytes : list_all is_mode_byte text ≡ true =
    list_all-append is_mode_byte front (114 ∷ [])
    ∙ and_from (list_all is_mode_byte front) (list_all is_mode_byte (114 ∷ [])) all.1 refl in
    let read : stands_in text 114 ≡ true =
    list_any-append (λ byte. to_ascii_lowercase byte == 114) front (114 ∷ [])
    ∙ or_right (stands_in front 114) (stands_in (114 ∷ []) 114) refl in
    let free : stands_in text 98 ≡ false =
    list_any-append (λ byte. to_ascii_lowercase byte == 98) front (114 ∷ [])
    ∙ or_from (stands_in front 98) (stands_in (114 ∷ []) 98) plain refl in (
      114 ∷ [],
      request_from text (record {
        some = some;
        run = and_from (nat_le (length text) 64) (list_all is_mode_byte text) fits bytes;
        letter = has_read (letters_that (stands_in text)) read;
        plain = free;
      }),
    )

on : (front : List ℕ) → begins_request front ≡ true → (rest : List ℕ) × (is_some (request_at (front ++ rest)) ≡ true)
on front is =
    let both = and_parts (begins_modes front && not (stands_in front 98))
    (not (is_empty (letters_that (stands_in front))) || nat_lt (length front) 64) is in
    let bytes = and_parts (begins_modes front) (not (stands_in front 98)) both.0 in
    let plain = not-true (stands_in front 98) bytes.1 in
    elim (or_cases (not (is_empty (letters_that (stands_in front)))) (nat_lt (length front) 64) both.1) as (λ _. (rest : List ℕ) × (is_some (request_at (front ++ rest)) ≡ true)) [
      | inl letter ↦ on_letter front bytes.0 plain (not-true (is_empty (letters_that (stands_in front))) letter)
      | inr short ↦ on_room front bytes.0 plain short
    ]

pub Fronts-request : Fronts (λ text. is_some (request_at text)) begins_request
Fronts-request = record { rest_of = on; is_front = front_of }
