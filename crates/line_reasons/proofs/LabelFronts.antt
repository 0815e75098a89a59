-- Labels and mode words.
use Rattle.std.proofs.Common.{◌≡◌, ℕ, Bool, true, false, not, cond, ◌&&◌, ◌||◌, List, [], ◌∷◌, ◌++◌, length, Option}
use Rattle.std.proofs.Common.{Some, None, refl, sym, ap, ◌∙◌, arith}
use Rattle.std.specs.Prelude.{◌==◌, nat_le, nat_lt, is_none, is_some, position}
use Rattle.std.specs.List.{list_all}
use Rattle.std.proofs.lemmas.Bool.{and_parts, and_from, lt-ltb, le-leb, leb-true, not_from_false}
use Rattle.smack_rules.specs.Label.{is_label_byte, begins_with_dash, is_special, form_fault, byte_fault}
use Rattle.smack_rules.specs.Rule.{is_label}
use Rattle.smack_rules.specs.Modes.{is_mode_byte, is_mode_word, modes_of, letters_that, stands_in}
use Rattle.smack_rules.specs.declared.label.LabelRefusal.{LabelRefusal}
use Rattle.smack_rules.specs.declared.label.LabelRefusal.TheVariants.{Empty, TooLong, Dash, Special}
use Rattle.smack_rules.specs.declared.modes.Modes.{Modes}
use Rattle.line_reasons.specs.parts.Texts.{is_run}
use Rattle.line_reasons.specs.parts.Forms.{begins_label, begins_modes}
use Rattle.line_reasons.proofs.Fronts.{Fronts, is_dark}
use Rattle.line_reasons.proofs.Runs.{short_position, Fronts-closed, as_it_is, run-front, dark_run, some_bytes}

-- ---- labels

label_tests : (empty long : Bool) (bad : Option ℕ) (dash special : Bool)
    → is_none (cond {A = Option LabelRefusal} empty (Some Empty) (cond {A = Option LabelRefusal} long (Some TooLong)
    (elim bad as (λ _. Option LabelRefusal) [ None ↦ cond {A = Option LabelRefusal} dash (Some Dash) (cond special (Some Special) None) | Some at ↦ byte_fault [] (Some at) ])))
    ≡ not empty && ((not long && is_none bad) && not dash) && not special
label_tests true long bad dash special = refl
label_tests false true bad dash special = refl
label_tests false false (Some at) dash special = refl
label_tests false false None true special = refl
label_tests false false None false true = refl
label_tests false false None false false = refl

byte_fault-cases : (text : List ℕ) (bad : Option ℕ) → byte_fault text bad
    ≡ elim bad as (λ _. Option LabelRefusal) [ None ↦ form_fault text | Some at ↦ byte_fault [] (Some at) ]
byte_fault-cases text (Some at) = refl
byte_fault-cases text None = refl

pub label_is : (text : List ℕ) → is_label text ≡ not (length text == 0) && begins_label text && not (is_special text)
label_is text =
    let bad = position (λ byte. not (is_label_byte byte)) text in
    ap (λ fault. is_none (cond {A = Option LabelRefusal} (length text == 0) (Some Empty) (cond {A = Option LabelRefusal} (nat_lt 255 (length text)) (Some TooLong) fault))) (byte_fault-cases text bad)
    ∙ label_tests (length text == 0) (nat_lt 255 (length text)) bad (begins_with_dash text) (is_special text)
    ∙ ap (λ b. not (length text == 0) && (b && not (begins_with_dash text)) && not (is_special text))
    (short_position 255 is_label_byte text)

label_begins : (text : List ℕ) → is_label text ≡ true → begins_label text ≡ true
label_begins text is =
    let first = and_parts (not (length text == 0) && begins_label text) (not (is_special text))
    (sym (label_is text) ∙ is) in
    (and_parts (not (length text == 0)) (begins_label text) first.0).1

label_from : (text : List ℕ) → not (length text == 0) ≡ true → begins_label text ≡ true → is_special text ≡ false
    → is_label text ≡ true
label_from text some begun plain =
    label_is text ∙ and_from (not (length text == 0) && begins_label text) (not (is_special text))
    (and_from (not (length text == 0)) (begins_label text) some begun) (not_from_false (is_special text) plain)

front_of-dash : (front rest : List ℕ) → not (begins_with_dash (front ++ rest)) ≡ true
    → not (begins_with_dash front) ≡ true
front_of-dash [] rest is = refl
front_of-dash (byte ∷ front) rest is = is

pub label-front : (front rest : List ℕ) → begins_label (front ++ rest) ≡ true → begins_label front ≡ true
label-front front rest is =
    let both = and_parts (is_run 255 is_label_byte (front ++ rest)) (not (begins_with_dash (front ++ rest))) is in
    and_from (is_run 255 is_label_byte front) (not (begins_with_dash front))
    (run-front 255 is_label_byte front rest both.0)
    (front_of-dash front rest both.1)

or_false : (a b : Bool) → a && false || b && false ≡ false
or_false true true = refl
or_false true false = refl
or_false false true = refl
or_false false false = refl

pub label_on : (front : List ℕ) → begins_label front ≡ true → (rest : List ℕ) × (is_label (front ++ rest) ≡ true)
label_on [] is = (97 ∷ [], refl)
label_on (byte ∷ []) is =
    let both = and_parts (is_run 255 is_label_byte (byte ∷ [])) (not (byte == 45)) is in
    let one = and_parts (nat_le 1 255) (is_label_byte byte && true) both.0 in (
      97 ∷ [],
      label_from (byte ∷ 97 ∷ []) refl
          (and_from (is_run 255 is_label_byte (byte ∷ 97 ∷ [])) (not (byte == 45)) one.1 both.1)
          (or_false (byte == 64) (byte == 63)),
    )
label_on (byte ∷ next ∷ bytes) is =
    as_it_is is_label (λ _. true) (byte ∷ next ∷ bytes)
    (label_from (byte ∷ next ∷ bytes) (some_bytes byte (next ∷ bytes)) is (or_false (byte == 64) (byte == 63)))

pub Fronts-label : Fronts is_label begins_label
Fronts-label = Fronts-closed is_label begins_label label_begins label-front label_on

pub label_byte-dark : (byte : ℕ) → is_label_byte byte ≡ true → is_dark byte ≡ true
label_byte-dark byte is =
    let marks = byte == 47 || byte == 92 || byte == 39 || byte == 34 in
    let first = and_parts (nat_le 0x21 byte && nat_le byte 0x7E) (not marks) is in
    let low = and_parts (nat_le 0x21 byte) (nat_le byte 0x7E) first.0 in
    lt-ltb 32 byte (omega (arith, leb-true 0x21 byte low.0))

pub label-dark : (front : List ℕ) → begins_label front ≡ true → list_all is_dark front ≡ true
label-dark front is =
    dark_run 255 is_label_byte label_byte-dark front
    (and_parts (is_run 255 is_label_byte front) (not (begins_with_dash front)) is).0

-- ---- mode words

some_modes : (b : Bool) (modes : Modes) → is_some (cond b (Some modes) None) ≡ b
some_modes true modes = refl
some_modes false modes = refl

pub modes_is : (text : List ℕ) → is_some (modes_of text) ≡ nat_le 1 (length text) && begins_modes text
modes_is text =
    some_modes (is_mode_word text) (letters_that (stands_in text))
    ∙ regroup (nat_le 1 (length text)) (nat_le (length text) 64) (list_all is_mode_byte text) where
      regroup : (a b c : Bool) → a && b && c ≡ a && (b && c)
      regroup true b c = refl
      regroup false b c = refl

modes_begin : (text : List ℕ) → is_some (modes_of text) ≡ true → begins_modes text ≡ true
modes_begin text is = (and_parts (nat_le 1 (length text)) (begins_modes text) (sym (modes_is text) ∙ is)).1

pub modes_from : (byte : ℕ) (bytes : List ℕ) → begins_modes (byte ∷ bytes) ≡ true
    → is_some (modes_of (byte ∷ bytes)) ≡ true
modes_from byte bytes is =
    modes_is (byte ∷ bytes) ∙ and_from (nat_le 1 (length (byte ∷ bytes))) (begins_modes (byte ∷ bytes))
    (le-leb 1 (length (byte ∷ bytes)) (omega arith)) is

modes_on : (front : List ℕ) → begins_modes front ≡ true → (rest : List ℕ) × (is_some (modes_of (front ++ rest)) ≡ true)
modes_on [] is = (114 ∷ [], refl)
modes_on (byte ∷ bytes) is = as_it_is (λ text. is_some (modes_of text)) (λ _. true) (byte ∷ bytes)
    (modes_from byte bytes is)

pub Fronts-modes : Fronts (λ text. is_some (modes_of text)) begins_modes
Fronts-modes = Fronts-closed (λ text. is_some (modes_of text)) begins_modes modes_begin
    (run-front 64 is_mode_byte) modes_on
