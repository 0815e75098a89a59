-- Words of bytes that pass a test, as short as a limit says.
use Rattle.std.proofs.Common.{◌≡◌, ℕ, ◌+◌, suc, Bool, true, false, not, cond, ◌&&◌, ltb, List, [], ◌∷◌, ◌++◌, length}
use Rattle.std.proofs.Common.{Some, None, refl, sym, ap, ◌∙◌, append-nil, arith, length-append}
use Rattle.std.specs.Prelude.{◌==◌, nat_le, nat_lt, is_none, position}
use Rattle.std.specs.List.{list_all, position_or_len}
use Rattle.std.proofs.lemmas.Bool.{and_parts, and_from, ltb-true, ltb-false, lt-ltb, le-ltb, leb-true, le-leb, lt-leb}
use Rattle.std.proofs.lemmas.Bool.{ne_eqb, not_from_false, not_from_true}
use Rattle.std.proofs.lemmas.List.Folds.{list_all-append}
use Rattle.line_reasons.specs.parts.Texts.{is_run}
use Rattle.line_reasons.proofs.Fronts.{Fronts, is_dark}

-- ---- a test of each byte, as the place of the first that fails

not_below : (n m : ℕ) → nat_le n m ≡ not (nat_lt m n)
not_below n m = by_case (ltb m n) refl where
  by_case : (below : Bool) → ltb m n ≡ below → nat_le n m ≡ not (nat_lt m n)
  by_case true is = lt-leb n m (ltb-true m n is) ∙ sym (not_from_true _ is)
  by_case false is = le-leb n m (ltb-false m n is) ∙ sym (not_from_false _ is)

pub past_one : (n m : ℕ) → ltb (1 + n) (suc m) ≡ ltb n m
past_one n m = by_case (ltb n m) refl where
  by_case : (below : Bool) → ltb n m ≡ below → ltb (1 + n) (suc m) ≡ ltb n m
  by_case true is = lt-ltb (1 + n) (suc m) (omega (arith, ltb-true n m is)) ∙ sym is
  by_case false is = le-ltb (1 + n) (suc m) (omega (arith, ltb-false n m is)) ∙ sym is

none_of-cond : (b : Bool) (x : ℕ) → is_none (cond b (Some x) None) ≡ not b
none_of-cond true x = refl
none_of-cond false x = refl

module _ (test : ℕ → Bool) where
  all_before : (text : List ℕ) → list_all test text
      ≡ not (ltb (position_or_len (λ byte. not (test byte)) text) (length text))
  all_before [] = refl
  all_before (byte ∷ bytes) = by_byte (all_before bytes) (test byte) where
    by_byte : list_all test bytes ≡ not (ltb (position_or_len (λ byte. not (test byte)) bytes) (length bytes))
        → (passes : Bool)
        → passes && list_all test bytes
        ≡ not (ltb (cond (not (not passes)) (1 + position_or_len (λ byte. not (test byte)) bytes) 0)
        (suc (length bytes)))
    by_byte later true = later ∙ ap not
        (sym (past_one (position_or_len (λ byte. not (test byte)) bytes) (length bytes)))
    by_byte later false = sym (not_from_true _ (lt-ltb 0 (suc (length bytes)) (omega arith)))

  pub all_position : (text : List ℕ) → is_none (position (λ byte. not (test byte)) text) ≡ list_all test text
  all_position text = none_of-cond (ltb (position_or_len (λ byte. not (test byte)) text) (length text)) _
      ∙ sym (all_before text)

pub short_position : (most : ℕ) (test : ℕ → Bool) (text : List ℕ)
    → not (nat_lt most (length text)) && is_none (position (λ byte. not (test byte)) text) ≡ is_run most test text
short_position most test text =
    ap (λ b. b && is_none (position (λ byte. not (test byte)) text)) (sym (not_below (length text) most))
    ∙ ap (λ b. nat_le (length text) most && b) (all_position test text)

-- ---- what is true of all words of a kind is true of their fronts

module _ (known fronts : List ℕ → Bool) where
  pub Fronts-closed : ((text : List ℕ) → known text ≡ true → fronts text ≡ true)
      → ((front rest : List ℕ) → fronts (front ++ rest) ≡ true → fronts front ≡ true)
      → ((front : List ℕ) → fronts front ≡ true → (rest : List ℕ) × (known (front ++ rest) ≡ true))
      → Fronts known fronts
  Fronts-closed within closed on = record {
    rest_of = on;
    is_front = λ front rest is. closed front rest (within (front ++ rest) is);
  }

  -- the same text, to which nothing is added
  pub as_it_is : (front : List ℕ) → known front ≡ true → (rest : List ℕ) × (known (front ++ rest) ≡ true)
  as_it_is front is = ([], ap known (append-nil front) ∙ is)

pub run-front : (most : ℕ) (test : ℕ → Bool) (front rest : List ℕ) → is_run most test (front ++ rest) ≡ true
    → is_run most test front ≡ true
run-front most test front rest is =
    let both = and_parts (nat_le (length (front ++ rest)) most) (list_all test (front ++ rest)) is in
    let all = and_parts (list_all test front) (list_all test rest) (sym (list_all-append test front rest) ∙ both.1) in
    and_from (nat_le (length front) most) (list_all test front)
    (le-leb (length front) most (omega (arith, leb-true (length (front ++ rest)) most both.0, length-append front rest))) all.0

-- bytes above the blanks
pub dark_all : (test : ℕ → Bool) → ((byte : ℕ) → test byte ≡ true → is_dark byte ≡ true) → (text : List ℕ)
    → list_all test text ≡ true → list_all is_dark text ≡ true
dark_all test above [] is = refl
dark_all test above (byte ∷ bytes) is =
    let both = and_parts (test byte) (list_all test bytes) is in
    and_from (is_dark byte) (list_all is_dark bytes) (above byte both.0) (dark_all test above bytes both.1)

pub dark_run : (most : ℕ) (test : ℕ → Bool) → ((byte : ℕ) → test byte ≡ true → is_dark byte ≡ true) → (text : List ℕ)
    → is_run most test text ≡ true → list_all is_dark text ≡ true
dark_run most test above text is = dark_all test above text
    (and_parts (nat_le (length text) most) (list_all test text) is).1

-- a list with an element is not empty
pub some_bytes : (byte : ℕ) (bytes : List ℕ) → not (length (byte ∷ bytes) == 0) ≡ true
some_bytes byte bytes = not_from_false _ (ne_eqb (length (byte ∷ bytes)) 0 (λ same. omega (arith, same)))

pub and_false : (b : Bool) → b && false ≡ false
and_false true = refl
and_false false = refl
