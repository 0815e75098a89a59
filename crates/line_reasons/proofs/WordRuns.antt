-- A front of a line of words goes on to a line.
use Rattle.std.proofs.Common.{◌≡◌, ℕ, Bool, true, false, cond, ◌||◌, List, [], ◌∷◌, ◌++◌, Option, Some, None, inl, inr}
use Rattle.std.proofs.Common.{refl, sym, ap, subst, ◌∙◌, append_assoc, append-nil, arith}
use Rattle.std.specs.Prelude.{option_and_then}
use Rattle.std.specs.List.{list_all}
use Rattle.std.proofs.lemmas.Bool.{or_cases, or_right, and_parts, true_from_ne_false, ltb-true, ne_eqb}
use Rattle.std.proofs.lemmas.List.Folds.{list_all-append}
use Rattle.line_reasons.specs.declared.forms.Form.{Form}
use Rattle.line_reasons.specs.declared.forms.Form.TheVariants.{Bucket, Field, Name, Names, FilterField, Depth, Result}
use Rattle.line_reasons.specs.declared.forms.Form.TheVariants.{Uid, UserType, Scope, PackageKind, Setter, Level, Ident}
use Rattle.line_reasons.specs.declared.forms.Form.TheVariants.{Author, Label, Request, TemplateLabel, Modes, MoreModes}
use Rattle.line_reasons.specs.parts.Forms.{is_word, may_lack, repeats, leaves_out}
use Rattle.line_reasons.specs.parts.Runs.{parts_words, is_gap, without_first, behind_form, behind_word, behind_part}
use Rattle.line_reasons.specs.parts.Runs.{Stand, stand, with_byte, run, may_end_with, ends_at, begins_at, goes_on_at}
use Rattle.line_reasons.specs.parts.Runs.{holds_at, is_line_of, begins_line_of}
use Rattle.line_reasons.proofs.Fronts.{Fronts, is_dark}
use Rattle.line_reasons.proofs.WordFronts.{form_fronts}

-- only words that may be absent repeat
once : (form : Form) → may_lack form ≡ false → repeats form ≡ false
once Names is = cc
once MoreModes is = refl
once Bucket is = refl
once Field is = refl
once Name is = refl
once FilterField is = refl
once Depth is = refl
once Result is = refl
once Uid is = refl
once UserType is = refl
once Scope is = refl
once PackageKind is = refl
once Setter is = refl
once Level is = refl
once Ident is = refl
once Author is = refl
once Label is = refl
once Request is = refl
once TemplateLabel is = refl
once Modes is = refl

-- a dark byte parts no words
dark_byte : (blanks : Bool) (byte : ℕ) → is_dark byte ≡ true → parts_words blanks byte ≡ false
dark_byte true byte is = grind (arith, ltb-true 32 byte is, ne_eqb byte 32, ne_eqb byte 9)
dark_byte false byte is = ne_eqb byte 32 (λ same. omega (arith, ltb-true 32 byte is))

-- a front and what follows it
pub run-append : (blanks : Bool) (at : Stand) (front rest : List ℕ)
    → run blanks at (front ++ rest) ≡ option_and_then (λ at. run blanks at rest) (run blanks at front)
run-append blanks at [] rest = refl
run-append blanks at (byte ∷ bytes) rest =
    elim (with_byte blanks at byte) as (λ next. option_and_then (λ at. run blanks at (bytes ++ rest)) next
    ≡ option_and_then (λ at. run blanks at rest) (option_and_then (λ at. run blanks at bytes) next)) [
      | None ↦ refl
      | Some next ↦ run-append blanks next bytes rest
    ]

-- bytes without a blank belong to the part under way
run-dark : (blanks : Bool) (forms : List Form) (part bytes : List ℕ) → list_all is_dark bytes ≡ true
    → run blanks (stand forms part) bytes ≡ Some (stand forms (part ++ bytes))
run-dark blanks forms part [] dark = ap (λ part. Some (stand forms part)) (sym (append-nil part))
run-dark blanks forms part (byte ∷ bytes) dark =
    let both = and_parts (is_dark byte) (list_all is_dark bytes) dark in
    let more : Option Stand = option_and_then (λ left. Some (stand left [])) (behind_part blanks forms part) in
    ap (λ b. option_and_then (λ next. run blanks next bytes) (cond b more (Some (stand forms (part ++ byte ∷ [])))))
    (dark_byte blanks byte both.0)
    ∙ run-dark blanks forms (part ++ byte ∷ []) bytes both.1
    ∙ ap (λ part. Some (stand forms part)) (append_assoc part (byte ∷ []) bytes)

-- ---- from a line back to its fronts

gap_of-append : (blanks : Bool) (part : List ℕ) (byte : ℕ) → is_gap blanks (part ++ byte ∷ []) ≡ false
gap_of-append true [] byte = refl
gap_of-append true (first ∷ part) byte = refl
gap_of-append false part byte = refl

behind_word-begins : (forms : List Form) (part : List ℕ) (left : List Form) → behind_word forms part ≡ Some left
    → begins_at forms part ≡ true
behind_word-begins [] part left is = cc
behind_word-begins (form ∷ forms) part left is =
    let Word : List ℕ → Type 0 = λ text. is_word form text ≡ true in
    let word : is_word form part ≡ true = true_from_ne_false _
    (λ wrong. let none = ap (λ b. cond b (Some (behind_form form forms part)) None) wrong in cc) in
    (form_fronts form).parts.is_front part [] (subst Word (sym (append-nil part)) word)

part-goes_on : (blanks : Bool) (at : Stand) (left : List Form) → behind_part blanks at.forms at.part ≡ Some left
    → goes_on_at blanks at ≡ true
part-goes_on blanks at left is = by_gap (is_gap blanks at.part) is where
  by_gap : (gap : Bool) → cond gap (Some at.forms) (behind_word at.forms at.part) ≡ Some left
      → gap || begins_at at.forms at.part ≡ true
  by_gap true is = refl
  by_gap false is = behind_word-begins at.forms at.part left is

-- a front of a front
begins_at-front : (forms : List Form) (part more : List ℕ) → begins_at forms (part ++ more) ≡ true
    → begins_at forms part ≡ true
begins_at-front [] part more is = cc
begins_at-front (form ∷ forms) part more is =
    let found = (form_fronts form).parts.rest_of (part ++ more) is in
    let Word : List ℕ → Type 0 = λ text. is_word form text ≡ true in
    (form_fronts form).parts.is_front part (more ++ found.0) (subst Word (append_assoc part more found.0) found.1)

ends-goes_on : (blanks : Bool) (at : Stand) (left : Option (List Form)) → behind_part blanks at.forms at.part ≡ left
    → may_end_with left ≡ true → goes_on_at blanks at ≡ true
ends-goes_on blanks at None is ends = cc
ends-goes_on blanks at (Some left) is ends = part-goes_on blanks at left is

module _ (blanks : Bool) (at : Stand) (byte : ℕ) (bytes : List ℕ) where
  back-parted : (left : Option (List Form)) → behind_part blanks at.forms at.part ≡ left
      → holds_at (ends_at blanks) (option_and_then (λ next. run blanks next bytes)
      (option_and_then (λ left. Some (stand left [])) left)) ≡ true
      → goes_on_at blanks at ≡ true
  back-parted None found is = cc
  back-parted (Some left) found is = part-goes_on blanks at left found

  back-joined : goes_on_at blanks (stand at.forms (at.part ++ byte ∷ [])) ≡ true → goes_on_at blanks at ≡ true
  back-joined is =
      let longer : begins_at at.forms (at.part ++ byte ∷ []) ≡ true =
      sym (ap (λ gap. gap || begins_at at.forms (at.part ++ byte ∷ [])) (gap_of-append blanks at.part byte)) ∙ is in
      or_right (is_gap blanks at.part) (begins_at at.forms at.part)
      (begins_at-front at.forms at.part (byte ∷ []) longer)

  back-byte : (holds_at (ends_at blanks) (run blanks (stand at.forms (at.part ++ byte ∷ [])) bytes) ≡ true
      → goes_on_at blanks (stand at.forms (at.part ++ byte ∷ [])) ≡ true)
      → (parts : Bool)
      → holds_at (ends_at blanks) (option_and_then (λ next. run blanks next bytes)
      (cond parts (option_and_then (λ left. Some (stand left [])) (behind_part blanks at.forms at.part))
      (Some (stand at.forms (at.part ++ byte ∷ [])))))
      ≡ true → goes_on_at blanks at ≡ true
  back-byte later true is = back-parted (behind_part blanks at.forms at.part) refl is
  back-byte later false is = back-joined (later is)

-- where a line ends behind a front, the front could go on
back : (blanks : Bool) (at : Stand) (rest : List ℕ) → holds_at (ends_at blanks) (run blanks at rest) ≡ true
    → goes_on_at blanks at ≡ true
back blanks at [] is = ends-goes_on blanks at (behind_part blanks at.forms at.part) refl is
back blanks at (byte ∷ bytes) is =
    back-byte blanks at byte bytes (λ is. back blanks (stand at.forms (at.part ++ byte ∷ [])) bytes is)
    (parts_words blanks byte) is

-- ---- from a front on to a line

-- what ends a line behind a part that is done
Tail : Bool → List Form → Type 0
Tail blanks forms = (tail : List ℕ) × ((at : Stand) → behind_part blanks at.forms at.part ≡ Some forms
    → holds_at (ends_at blanks) (run blanks at tail) ≡ true)

gap_of-word : (blanks : Bool) (form : Form) (word : List ℕ) → is_word form word ≡ true → is_gap blanks word ≡ false
gap_of-word true form [] is = let none = (form_fronts form).some in cc
gap_of-word true form (byte ∷ bytes) is = refl
gap_of-word false form word is = refl

behind_part-word : (blanks : Bool) (form : Form) (forms : List Form) (word : List ℕ) → is_word form word ≡ true
    → behind_part blanks (form ∷ forms) word ≡ Some (behind_form form forms word)
behind_part-word blanks form forms word is =
    ap (λ gap. cond gap (Some (form ∷ forms)) (behind_word (form ∷ forms) word)) (gap_of-word blanks form word is)
    ∙ ap (λ b. cond b (Some (behind_form form forms word)) None) is

space_parts : (blanks : Bool) → parts_words blanks 32 ≡ true
space_parts true = refl
space_parts false = refl

dark_of-word : (form : Form) (word : List ℕ) → is_word form word ≡ true → list_all is_dark word ≡ true
dark_of-word form word is =
    let Word : List ℕ → Type 0 = λ text. is_word form text ≡ true in
    (form_fronts form).dark word ((form_fronts form).parts.is_front word [] (subst Word (sym (append-nil word)) is))

dark_behind : (part word : List ℕ) → list_all is_dark (part ++ word) ≡ true → list_all is_dark word ≡ true
dark_behind part word dark =
    (and_parts (list_all is_dark part) (list_all is_dark word) (sym (list_all-append is_dark part word) ∙ dark)).1

-- a word that is done, and the tail behind it
with_tail : (blanks : Bool) (form : Form) (forms : List Form) (part word : List ℕ) → is_word form (part ++ word) ≡ true
    → (tail : List ℕ) → ((at : Stand) → behind_part blanks at.forms at.part ≡ Some
    (behind_form form forms (part ++ word))
    → holds_at (ends_at blanks) (run blanks at tail) ≡ true)
    → holds_at (ends_at blanks) (run blanks (stand (form ∷ forms) part) (word ++ tail)) ≡ true
with_tail blanks form forms part word is tail ends =
    let dark = dark_behind part word (dark_of-word form (part ++ word) is) in
    ap (holds_at (ends_at blanks)) (run-append blanks (stand (form ∷ forms) part) word tail
    ∙ ap (option_and_then (λ at. run blanks at tail)) (run-dark blanks (form ∷ forms) part word dark))
    ∙ ends (stand (form ∷ forms) (part ++ word)) (behind_part-word blanks form forms (part ++ word) is)

-- behind a part that is done, a space and a word
spaced : (blanks : Bool) (at : Stand) (forms : List Form) (bytes : List ℕ)
    → behind_part blanks at.forms at.part ≡ Some forms
    → run blanks at (32 ∷ bytes) ≡ run blanks (stand forms []) bytes
spaced blanks at forms bytes found =
    let joined : Option Stand = Some (stand at.forms (at.part ++ 32 ∷ [])) in
    ap (λ b. option_and_then (λ next. run blanks next bytes)
    (cond b (option_and_then (λ left. Some (stand left [])) (behind_part blanks at.forms at.part)) joined))
    (space_parts blanks)
    ∙ ap (λ left. option_and_then (λ next. run blanks next bytes)
    (option_and_then (λ left. Some (stand left [])) left)) found

-- behind forms, and behind these without the first
abbrev Tails : Bool → List Form → Type 0
Tails blanks forms = Tail blanks forms × Tail blanks (without_first forms)

-- behind the forms that are left, be one of them left out or not
tail_left : (blanks : Bool) (forms : List Form) (out : Bool) → Tails blanks forms
    → Tail blanks (cond out (without_first forms) forms)
tail_left blanks forms true tails = tails.1
tail_left blanks forms false tails = tails.0

tail_behind : (blanks : Bool) (form : Form) (forms : List Form) → (lacks : Bool) → may_lack form ≡ lacks
    → Tails blanks forms
    → Tail blanks (form ∷ forms)
unfolding Tail
tail_behind blanks form forms true is tails = ([], λ at found. ap may_end_with found ∙ is)
tail_behind blanks form forms false is tails =
    let fronts = form_fronts form in
    let word = fronts.parts.rest_of [] fronts.starts in
    let left : List Form = cond (leaves_out form word.0) (without_first forms) forms in
    let later = tail_left blanks forms (leaves_out form word.0) tails in
    let next : behind_form form forms word.0 ≡ left = ap (λ b. cond b (form ∷ forms) left) (once form is) in
    let ends = λ (at : Stand) (found : behind_part blanks at.forms at.part ≡ Some (behind_form form forms word.0)).
    later.1 at (found ∙ ap Some next) in (
      32 ∷ (word.0 ++ later.0),
      λ at found.
          ap (holds_at (ends_at blanks)) (spaced blanks at (form ∷ forms) (word.0 ++ later.0) found)
          ∙ with_tail blanks form forms [] word.0 word.1 later.0 ends,
    )

tails_of : (blanks : Bool) (forms : List Form) → Tails blanks forms
unfolding Tail
tails_of blanks [] = (([], λ at found. ap may_end_with found), ([], λ at found. ap may_end_with found))
tails_of blanks (form ∷ forms) =
    let later = tails_of blanks forms in (tail_behind blanks form forms (may_lack form) refl later, later.0)

tail_of : (blanks : Bool) (forms : List Form) → Tail blanks forms
tail_of blanks forms = (tails_of blanks forms).0

-- what follows a front that can go on
Rest : Bool → Stand → Type 0
Rest blanks at = (rest : List ℕ) × (holds_at (ends_at blanks) (run blanks at rest) ≡ true)

on_word : (blanks : Bool) (forms : List Form) (part : List ℕ) → begins_at forms part ≡ true
    → Rest blanks (stand forms part)
unfolding Rest Tail
on_word blanks [] part is = cc
on_word blanks (form ∷ forms) part is =
    let word = (form_fronts form).parts.rest_of part is in
    let tail = tail_of blanks (behind_form form forms (part ++ word.0)) in
    (word.0 ++ tail.0, with_tail blanks form forms part word.0 word.1 tail.0 tail.1)

on_gap : (blanks : Bool) (forms : List Form) (part : List ℕ) → is_gap blanks part ≡ true
    → Rest blanks (stand forms part)
unfolding Rest Tail
on_gap blanks forms part is =
    let tail = tail_of blanks forms in
    (tail.0, tail.1 (stand forms part) (ap (λ gap. cond gap (Some forms) (behind_word forms part)) is))

on : (blanks : Bool) (at : Stand) → goes_on_at blanks at ≡ true → Rest blanks at
on blanks at is = elim (or_cases (is_gap blanks at.part) (begins_at at.forms at.part) is) as (λ _. Rest blanks at) [
  | inl gap ↦ on_gap blanks at.forms at.part gap
  | inr begun ↦ on_word blanks at.forms at.part begun
]

-- ---- both

module _ (blanks : Bool) where
  front_from : (at : Option Stand) (rest : List ℕ)
      → holds_at (ends_at blanks) (option_and_then (λ at. run blanks at rest) at) ≡ true
      → holds_at (goes_on_at blanks) at ≡ true
  front_from None rest is = cc
  front_from (Some at) rest is = back blanks at rest is

  rest_from : (at : Option Stand) → holds_at (goes_on_at blanks) at ≡ true
      → (rest : List ℕ) × (holds_at (ends_at blanks) (option_and_then (λ at. run blanks at rest) at) ≡ true)
  unfolding Rest
  rest_from None is = cc
  rest_from (Some at) is = on blanks at is

  pub line_fronts : (forms : List Form) → Fronts (is_line_of blanks forms) (begins_line_of blanks forms)
  line_fronts forms = record {
    rest_of = λ front is.
        let found = rest_from (run blanks (stand forms []) front) is in
        (found.0, ap (holds_at (ends_at blanks)) (run-append blanks (stand forms []) front found.0) ∙ found.1);
    is_front = λ front rest is.
        front_from (run blanks (stand forms []) front) rest
        (ap (holds_at (ends_at blanks)) (sym (run-append blanks (stand forms []) front rest)) ∙ is);
  }
