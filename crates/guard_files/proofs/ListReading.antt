-- How a list file is read line by line.
use Rattle.std.proofs.Common.{◌≡◌, ◌<◌, ◌≤◌, ℕ, zero, suc, ◌+◌, Bool, true, false, not, ◌==◌, List, [], ◌∷◌, ◌++◌, take, drop, length, Option, Some, None, cond, refl, sym, ◌∙◌, ap, arith, append_assoc, length-append}
use Rattle.std.proofs.lemmas.List.{append-nil}
use Rattle.std.proofs.lemmas.Bool.{and_parts, and_from, both_ways, false≢true, not-true, eqb-true, eqb-false, ltb-true, ltb-false}
use Rattle.std.proofs.Math.Numerals.{add-one}
use Rattle.std.specs.Prelude.{nat_lt}
use Rattle.std.specs.List.{list_all, position, position_or_len}
use Rattle.std.specs.Ordering.{nat_cmp, is_lt}
use Rattle.std.specs.Cmp.Lexicographic.{slice_cmp}
use Rattle.std.specs.declared.cmp.Ordering.{Ordering}
use Rattle.std.specs.declared.cmp.Ordering.TheVariants.{Less, Equal, Greater}
use Rattle.std.proofs.lemmas.Cmp.{nat_list_cmp_total}
use Rattle.guard_files.specs.OwnName.{is_listable}
use Rattle.guard_files.specs.ListFile.{list_text, in_front, lines_of, rises, are_listable, names_in}
use Rattle.guard_files.specs.parts.Last.{last_name}
use Rattle.guard_files.proofs.Lists.{lines_of-text, lines_of-names, names_in-text, text-names_in, list_text-push}

-- a text of names and more, read to its end
pub listed-whole : (bytes : List ℕ) (names : List (List ℕ)) → are_listable names ≡ true
    → list_text names ++ [] ≡ bytes → names_in bytes ≡ Some names
listed-whole bytes names may is = ap names_in (sym is ∙ append-nil (list_text names)) ∙ names_in-text names may

-- where the bytes are a list file, its names are those so far and the lines of the rest
names_are : (bytes rest : List ℕ) (names found : List (List ℕ)) → are_listable names ≡ true
    → list_text names ++ rest ≡ bytes
    → names_in bytes ≡ Some found → found ≡ names ++ lines_of rest
names_are bytes rest names found may is some =
    let spelled = text-names_in bytes found some in
    sym (lines_of-names found (and_parts _ _ spelled.1).0) ∙ ap lines_of (spelled.0 ∙ sym is) ∙ lines_of-text names rest (and_parts _ _ may).0

none_where : (found : Option (List (List ℕ))) → ((names : List (List ℕ)) → found ≡ Some names → ⊥) → found ≡ None
none_where None never = refl
none_where (Some names) never = absurd (never names refl)

list_all-append : (test : List ℕ → Bool) (first second : List (List ℕ)) → list_all test (first ++ second) ≡ true
    → list_all test second ≡ true
list_all-append test [] second all = all
list_all-append test (name ∷ first) second all = list_all-append test first second (and_parts _ _ all).1

-- a line that may not stand in a list
pub listed-bad_line : (bytes line after : List ℕ) (names : List (List ℕ)) (rest : List ℕ) → are_listable names ≡ true
    → list_text names ++ rest ≡ bytes
    → lines_of rest ≡ line ∷ lines_of after → is_listable line ≡ false → names_in bytes ≡ None
listed-bad_line bytes line after names rest may is lines bad =
    none_where (names_in bytes) (λ found some.
    let whole = names_are bytes rest names found may is some in
    let listable = (and_parts _ _ (text-names_in bytes found some).1).0 in
    let tail = list_all-append is_listable names (lines_of rest) (ap (list_all is_listable) (sym whole) ∙ listable) in
    both_ways (is_listable line) bad (and_parts _ _ (ap (list_all is_listable) (sym lines) ∙ tail)).0)

-- each name is below what is above the last
below-trans : (a b c : List ℕ) → is_lt (slice_cmp nat_cmp a b) ≡ true → is_lt (slice_cmp nat_cmp b c) ≡ true
    → is_lt (slice_cmp nat_cmp a c) ≡ true
below-trans a b c first second =
    ap is_lt (nat_list_cmp_total.trans a b c (less (slice_cmp nat_cmp a b) first) (less (slice_cmp nat_cmp b c) second))
  where
    less : (order : Ordering) → is_lt order ≡ true → order ≡ Less
    less Less is = refl
    less Equal is = absurd (false≢true is)
    less Greater is = absurd (false≢true is)

all_below_last : (name next : List ℕ) (names : List (List ℕ))
    → list_all (λ later. is_lt (slice_cmp nat_cmp name later)) (next ∷ names) ≡ true
    → is_lt (slice_cmp nat_cmp name (last_name (next ∷ names))) ≡ true
all_below_last name next [] all = (and_parts _ _ all).0
all_below_last name next (more ∷ names) all = all_below_last name more names (and_parts _ _ all).1

all_push : (test : List ℕ → Bool) (names : List (List ℕ)) (line : List ℕ) → list_all test names ≡ true
    → test line ≡ true
    → list_all test (names ++ line ∷ []) ≡ true
all_push test [] line all one = and_from _ _ one refl
all_push test (name ∷ names) line all one = let both = and_parts _ _ all in and_from _ _ both.0 (all_push test names line both.1 one)

rises-push : (names : List (List ℕ)) (line : List ℕ) → rises names ≡ true
    → is_lt (slice_cmp nat_cmp (last_name names) line) ≡ true
    → rises (names ++ line ∷ []) ≡ true
rises-push [] line rising above = refl
rises-push (name ∷ []) line rising above = and_from _ _ (and_from _ _ above refl) refl
rises-push (name ∷ next ∷ names) line rising above =
    let both = and_parts _ _ rising in
    and_from _ _
    (all_push (λ later. is_lt (slice_cmp nat_cmp name later)) (next ∷ names) line both.0
    (below-trans name (last_name (next ∷ names)) line (all_below_last name next names both.0) above))
    (rises-push (next ∷ names) line both.1 above)

-- one more line
pub are_listable-push : (names : List (List ℕ)) (line : List ℕ) → are_listable names ≡ true → is_listable line ≡ true
    → is_lt (slice_cmp nat_cmp (last_name names) line) ≡ true → are_listable (names ++ line ∷ []) ≡ true
are_listable-push names line may is above =
    let both = and_parts _ _ may in and_from _ _ (all_push is_listable names line both.0 is) (rises-push names line both.1 above)

pub last_name-push : (names : List (List ℕ)) (line : List ℕ) → last_name (names ++ line ∷ []) ≡ line
last_name-push [] line = refl
last_name-push (name ∷ []) line = refl
last_name-push (name ∷ next ∷ names) line = last_name-push (next ∷ names) line

-- in names that rise a line is above the last before it
rises-at : (names : List (List ℕ)) (line : List ℕ) (more : List (List ℕ)) → 0 < length line
    → rises (names ++ line ∷ more) ≡ true
    → is_lt (slice_cmp nat_cmp (last_name names) line) ≡ true
rises-at [] [] more some rising = absurd (omega arith)
rises-at [] (byte ∷ line) more some rising = refl
rises-at (name ∷ []) line more some rising = (and_parts _ _ (and_parts _ _ rising).0).0
rises-at (name ∷ next ∷ names) line more some rising = rises-at (next ∷ names) line more some (and_parts _ _ rising).1

pub listed-unsorted : (bytes line after : List ℕ) (names : List (List ℕ)) (rest : List ℕ) → are_listable names ≡ true
    → list_text names ++ rest ≡ bytes
    → lines_of rest ≡ line ∷ lines_of after → 0 < length line
    → is_lt (slice_cmp nat_cmp (last_name names) line) ≡ false → names_in bytes ≡ None
listed-unsorted bytes line after names rest may is lines some unsorted =
    none_where (names_in bytes) (λ found listing.
    let whole = names_are bytes rest names found may is listing ∙ ap (λ more. names ++ more) lines in
    let rising = (and_parts _ _ (text-names_in bytes found listing).1).1 in
    both_ways (is_lt (slice_cmp nat_cmp (last_name names) line)) unsorted
    (rises-at names line (lines_of after) some (ap rises (sym whole) ∙ rising)))

-- a last line without a newline
lines_of-cut : (byte : ℕ) (bytes : List ℕ) → list_all (λ byte. not (byte == 10)) (byte ∷ bytes) ≡ true
    → lines_of (byte ∷ bytes) ≡ (byte ∷ bytes) ∷ []
lines_of-cut byte [] all = ap (λ test. cond test ([] ∷ []) ((byte ∷ []) ∷ [])) (not-true (byte == 10) (and_parts _ _ all).0)
lines_of-cut byte (next ∷ bytes) all =
    let both = and_parts _ _ all in
    ap (λ test. cond test ([] ∷ lines_of (next ∷ bytes)) (in_front byte (lines_of (next ∷ bytes)))) (not-true (byte == 10) both.0)
    ∙ ap (in_front byte) (lines_of-cut next bytes both.1)

no_newline : (bytes : List ℕ) → length bytes ≤ position_or_len (λ byte. byte == 10) bytes
    → list_all (λ byte. not (byte == 10)) bytes ≡ true
no_newline [] past = refl
no_newline (byte ∷ bytes) past = at_byte (byte == 10) refl (no_newline bytes)
  where
    at_byte : (test : Bool) → (byte == 10) ≡ test
        → (length bytes ≤ position_or_len (λ byte. byte == 10) bytes → list_all (λ byte. not (byte == 10)) bytes ≡ true)
        → list_all (λ byte. not (byte == 10)) (byte ∷ bytes) ≡ true
    at_byte true is others =
        let first : position_or_len (λ byte. byte == 10) (byte ∷ bytes) ≡ 0 =
        ap (λ test. cond (not test) (1 + position_or_len (λ byte. byte == 10) bytes) 0) is in
        absurd (omega (arith, past, first))
    at_byte false is others =
        let more : position_or_len (λ byte. byte == 10) (byte ∷ bytes) ≡ 1 + position_or_len (λ byte. byte == 10) bytes =
        ap (λ test. cond (not test) (1 + position_or_len (λ byte. byte == 10) bytes) 0) is in
        and_from _ _ (ap not is) (others (omega (arith, past, more)))

found_none : (test : Bool) (place : ℕ) → cond test (Some place) None ≡ None → test ≡ false
found_none true place is = absurd (cc)
found_none false place is = refl

found_some : (test : Bool) (place end : ℕ) → cond test (Some place) None ≡ Some end → (test ≡ true) × (place ≡ end)
found_some true place end is = (refl, cc)
found_some false place end is = absurd (cc)

longer : (text : List ℕ) → text ++ 10 ∷ [] ≡ text → ⊥
longer text is = omega (arith, length-append text (10 ∷ []), ap length is)

pub listed-cut : (bytes : List ℕ) (names : List (List ℕ)) (rest : List ℕ) → are_listable names ≡ true
    → list_text names ++ rest ≡ bytes
    → 0 < length rest → position (λ byte. byte == 10) rest ≡ None → names_in bytes ≡ None
listed-cut bytes names [] may is some none = absurd (omega arith)
listed-cut bytes names (byte ∷ rest) may is some none =
    none_where (names_in bytes) (λ found listing.
    let past = ltb-past (position_or_len (λ byte. byte == 10) (byte ∷ rest)) (length (byte ∷ rest)) (found_none _ _ none) in
    let whole = names_are bytes (byte ∷ rest) names found may is listing
    ∙ ap (λ more. names ++ more) (lines_of-cut byte rest (no_newline (byte ∷ rest) past)) in
    longer (list_text names ++ byte ∷ rest)
    (sym (list_text-push names (byte ∷ rest)) ∙ ap list_text (sym whole) ∙ (text-names_in bytes found listing).0 ∙ sym is))
  where
    ltb-past : (a b : ℕ) → nat_lt a b ≡ false → b ≤ a
    ltb-past a b = ltb-false a b

-- the first line of a text with a newline
pub record FirstLine (rest : List ℕ) (end : ℕ) : Type 0 where
  pub split : rest ≡ take end rest ++ 10 ∷ drop (suc end) rest
  pub lines : lines_of rest ≡ take end rest ∷ lines_of (drop (suc end) rest)

first_line : (rest : List ℕ) (end : ℕ) → position_or_len (λ byte. byte == 10) rest ≡ end → end < length rest
    → FirstLine rest end
first_line [] end is within = absurd (omega arith)
first_line (byte ∷ bytes) end is within = at_byte (byte == 10) refl end is within (first_line bytes)
  where
    at_byte : (test : Bool) → (byte == 10) ≡ test → (end : ℕ)
        → position_or_len (λ byte. byte == 10) (byte ∷ bytes) ≡ end
        → end < length (byte ∷ bytes)
        → ((end : ℕ) → position_or_len (λ byte. byte == 10) bytes ≡ end → end < length bytes → FirstLine bytes end)
        → FirstLine (byte ∷ bytes) end
    at_byte true newline zero is within others = record {
      split = ap (λ first. first ∷ bytes) (eqb-true byte 10 newline);
      lines = ap (λ test. cond test ([] ∷ lines_of bytes) (in_front byte (lines_of bytes))) newline;
    }
    at_byte true newline (suc end) is within others =
        let first : position_or_len (λ byte. byte == 10) (byte ∷ bytes) ≡ 0 =
        ap (λ test. cond (not test) (1 + position_or_len (λ byte. byte == 10) bytes) 0) newline in
        absurd (omega (arith, is, first))
    at_byte false other zero is within others =
        let more : position_or_len (λ byte. byte == 10) (byte ∷ bytes) ≡ 1 + position_or_len (λ byte. byte == 10) bytes =
        ap (λ test. cond (not test) (1 + position_or_len (λ byte. byte == 10) bytes) 0) other in
        absurd (omega (arith, is, more))
    at_byte false other (suc end) is within others =
        let more : position_or_len (λ byte. byte == 10) (byte ∷ bytes) ≡ 1 + position_or_len (λ byte. byte == 10) bytes =
        ap (λ test. cond (not test) (1 + position_or_len (λ byte. byte == 10) bytes) 0) other in
        let rest = others end (omega (arith, is, more)) (omega arith) in
        record {
          split = ap (λ more. byte ∷ more) rest.split;
          lines =
              ap (λ test. cond test ([] ∷ lines_of bytes) (in_front byte (lines_of bytes))) other
              ∙ ap (in_front byte) rest.lines;
        }

pub first_line-at : (rest : List ℕ) (end : ℕ) → position (λ byte. byte == 10) rest ≡ Some end → FirstLine rest end
first_line-at rest end is =
    let found = found_some _ _ end is in
    let within = ltb-true (position_or_len (λ byte. byte == 10) rest) (length rest) found.0 in
    first_line rest end found.1 (omega (arith, within, found.1))

-- whether there is more to read
pub more_left : (rest : List ℕ) (empty : Bool) → empty ≡ (length rest == 0) → empty ≡ false → 0 < length rest
more_left rest empty is not_empty = let some = eqb-false (length rest) 0 (sym is ∙ not_empty) in omega arith

pub none_left : (rest : List ℕ) (empty : Bool) → empty ≡ (length rest == 0) → empty ≡ true → rest ≡ []
none_left [] empty is ended = refl
none_left (byte ∷ rest) empty is ended = absurd (omega (arith, eqb-true (length (byte ∷ rest)) 0 (sym is ∙ ended)))

-- one more line was read
pub read_more : (names items : List (List ℕ)) (rest bytes line after : List ℕ) (end : ℕ) → items ≡ names ++ line ∷ []
    → line ≡ take end rest
    → after ≡ drop (end + 1) rest → FirstLine rest end → list_text names ++ rest ≡ bytes
    → list_text items ++ after ≡ bytes
read_more names items rest bytes line after end items_are line_is after_is first so_far =
    ap (λ (items : List (List ℕ)). list_text items ++ after) items_are
    ∙ ap (λ text. text ++ after) (list_text-push names line)
    ∙ append_assoc (list_text names ++ line) (10 ∷ []) after
    ∙ append_assoc (list_text names) line (10 ∷ after)
    ∙ ap (λ tail. list_text names ++ tail)
    (ap (λ line. line ++ 10 ∷ after) line_is ∙ ap (λ tail. take end rest ++ 10 ∷ tail) (after_is ∙ ap (λ n. drop n rest) (add-one end)) ∙ sym first.split)
    ∙ so_far
