-- The text of a template has room in a field.
use Rattle.std.proofs.Common.{◌≡◌, ℕ, ◌+◌, ◌*◌, ◌^◌, ◌<◌, ◌≤◌, Bool, true, false, cond, ltb, leb, eqb, ◌&&◌, List, []}
use Rattle.std.proofs.Common.{◌∷◌, ◌++◌, length, Option, Some, None, is_none, Result, Ok, Err, refl, subst, arith}
use Rattle.std.specs.Option.{option_map}
use Rattle.std.specs.List.{list_all}
use Rattle.std.proofs.lemmas.Bool.{ltb-false, leb-true}
use Rattle.std.proofs.lemmas.List.{length-append}
use Rattle.text_lines.specs.Lines.{lines_of}
use Rattle.smack_rules.specs.Modes.{spelling, is_mode_word, is_mode_byte, letters_that, stands_in}
use Rattle.smack_rules.specs.Rule.{is_label}
use Rattle.smack_rules.specs.Spelling.{parted}
use Rattle.smack_rules.specs.Words.{words_of}
use Rattle.smack_rules.specs.declared.label.LabelRefusal.{LabelRefusal}
use Rattle.smack_rules.specs.declared.label.LabelRefusal.TheVariants.{Empty, TooLong}
use Rattle.smack_rules.specs.declared.modes.Modes.{Modes}
use Rattle.smack_rules.proofs.Spelled.{modes_of-spelling}
use Rattle.rule_templates.specs.declared.lines.Change.{Change}
use Rattle.rule_templates.specs.declared.lines.Change.TheVariants.{Set, Adjust}
use Rattle.rule_templates.specs.declared.lines.LineFault.{LineFault}
use Rattle.rule_templates.specs.declared.lines.LineFault.TheVariants.{Form, UnknownPlaceholder}
use Rattle.rule_templates.specs.declared.lines.TemplateLine.{TemplateLine}
use Rattle.rule_templates.specs.declared.lines.Word.{Word}
use Rattle.rule_templates.specs.declared.lines.Word.TheVariants.{Fixed, OfPackage}
use Rattle.rule_templates.specs.declared.placeholders.Placeholder.{Placeholder}
use Rattle.rule_templates.specs.declared.placeholders.Placeholder.TheVariants.{Process, PathRw, PathRo, Author}
use Rattle.rule_templates.specs.declared.templates.TemplateRefusal.{TemplateRefusal}
use Rattle.rule_templates.specs.declared.templates.TemplateRefusal.TheVariants.{TooMany}
use Rattle.rule_templates.specs.Placeholder.{placeholder_text, placeholder_of, begins_with_tilde}
use Rattle.rule_templates.specs.TemplateLine.{word_text, change_words, line_text, is_label_word, word_of, change_of}
use Rattle.rule_templates.specs.TemplateLine.{line_with, line_of, line_of_words}
use Rattle.rule_templates.specs.Template.{with_front, with_line, template_from, template_of, template_text}
use Rattle.wire_fields.proofs.FieldLaws.{and_both}

modes_small : (modes : Modes) → length (spelling modes) ≤ 64
modes_small modes = by_cases (is_mode_word (spelling modes)) refl (modes_of-spelling modes)
  where
    by_cases : (b : Bool) → is_mode_word (spelling modes) ≡ b
        → cond b (Some (letters_that (stands_in (spelling modes)))) None ≡ Some modes → length (spelling modes) ≤ 64
    by_cases false is e = absurd cc
    by_cases true is e =
        let word = spelling modes in
        let some = and_both (leb 1 (length word) && leb (length word) 64) (list_all is_mode_byte word) is in
        leb-true _ _ (and_both (leb 1 (length word)) (leb (length word) 64) some.0).1

label_small : (label : List ℕ) → is_label label ≡ true → length label ≤ 255
label_small label is = by_cases (eqb (length label) 0) (ltb 255 (length label)) _ refl is
  where
    by_cases : (a b : Bool) (rest : Option LabelRefusal) → ltb 255 (length label) ≡ b
        → is_none (cond a (Some Empty) (cond b (Some TooLong) rest)) ≡ true → length label ≤ 255
    by_cases true b rest long e = absurd cc
    by_cases false true rest long e = absurd cc
    by_cases false false rest long e = ltb-false _ _ long

placeholder_small : (placeholder : Placeholder) → length (placeholder_text placeholder) ≤ 255
placeholder_small Process = omega arith
placeholder_small PathRw = omega arith
placeholder_small PathRo = omega arith
placeholder_small Author = omega arith

word_small : (bytes : List ℕ) (word : Word) → word_of bytes ≡ Some word → length (word_text word) ≤ 255
word_small bytes word is = by_cases (begins_with_tilde bytes) (placeholder_of bytes) (is_label bytes) refl is
  where
    by_cases : (tilde : Bool) (found : Option Placeholder) (label : Bool) → is_label bytes ≡ label
        → cond tilde (option_map OfPackage found) (cond label (Some (Fixed bytes)) None) ≡ Some word
        → length (word_text word) ≤ 255
    by_cases true None label is e = absurd cc
    by_cases true (Some placeholder) label is e =
        let same : OfPackage placeholder ≡ word = cc in
        subst (λ (w : Word). length (word_text w) ≤ 255) same (placeholder_small placeholder)
    by_cases false found false is e = absurd cc
    by_cases false found true is e =
        let same : Fixed bytes ≡ word = cc in
        subst (λ (w : Word). length (word_text w) ≤ 255) same (label_small bytes is)

parted_small : (subject object : List ℕ) (change : Change) → length subject ≤ 255 → length object ≤ 255
    → length (parted (subject ∷ object ∷ change_words change)) ≤ 641
parted_small subject object (Set modes) s o =
    omega (
      arith,
      length-append subject (32 ∷ (object ++ (32 ∷ spelling modes))),
      length-append object (32 ∷ spelling modes),
      modes_small modes,
    )
parted_small subject object (Adjust allow deny) s o =
    omega (
      arith,
      length-append subject (32 ∷ (object ++ (32 ∷ (spelling allow ++ (32 ∷ spelling deny))))),
      length-append object (32 ∷ (spelling allow ++ (32 ∷ spelling deny))),
      length-append (spelling allow) (32 ∷ spelling deny),
      modes_small allow,
      modes_small deny,
    )

line_with_small : (s o : List ℕ) (subject object : Option Word) (change : Option Change) (line : TemplateLine)
    → word_of s ≡ subject → word_of o ≡ object → line_with subject object change ≡ Ok line
    → length (line_text line) ≤ 641
line_with_small s o subject object None line of_s of_o e = absurd cc
line_with_small s o None object (Some change) line of_s of_o e = absurd cc
line_with_small s o (Some subject) None (Some change) line of_s of_o e = absurd cc
line_with_small s o (Some subject) (Some object) (Some change) line of_s of_o e =
    let made : TemplateLine = record { subject = subject; object = object; change = change } in
    let same : made ≡ line = cc in
    subst (λ (l : TemplateLine). length (line_text l) ≤ 641) same
    (parted_small (word_text subject) (word_text object) change (word_small s subject of_s) (word_small o object of_o))

words_small : (words : List (List ℕ)) (line : TemplateLine) → line_of_words words ≡ Ok line
    → length (line_text line) ≤ 641
words_small [] line e = absurd cc
words_small (word ∷ []) line e = absurd cc
words_small (subject ∷ object ∷ modes) line e = by_cases (is_label_word subject && is_label_word object) e
  where
    by_cases : (b : Bool) → cond b (line_with (word_of subject) (word_of object) (change_of modes)) (Err Form) ≡ Ok line
        → length (line_text line) ≤ 641
    by_cases false e = absurd cc
    by_cases true e =
        line_with_small subject object (word_of subject) (word_of object) (change_of modes) line refl refl e

-- a line and those behind it, where the text of these is known to be small
with_line_small : (number : ℕ) (read : Result TemplateLine LineFault)
    (later : Result (List TemplateLine) TemplateRefusal) (lines : List TemplateLine)
    → ((line : TemplateLine) → read ≡ Ok line → length (line_text line) ≤ 641)
    → ((rest : List TemplateLine) → number ≤ 64 → later ≡ Ok rest
    → length (template_text rest) + 642 * (number + 1) ≤ 41730)
    → with_line number read later ≡ Ok lines
    → length (template_text lines) + 642 * number ≤ 41730
with_line_small number (Err Form) later lines one others e = absurd cc
with_line_small number (Err UnknownPlaceholder) later lines one others e = absurd cc
with_line_small number (Ok line) later lines one others e = by_number (ltb 64 number) later refl refl e
  where
    by_number : (b : Bool) (read : Result (List TemplateLine) TemplateRefusal) → ltb 64 number ≡ b → later ≡ read
        → cond b (Err (TooMany number)) (with_front (line ∷ []) read) ≡ Ok lines
        → length (template_text lines) + 642 * number ≤ 41730
    by_number true read is same e = absurd cc
    by_number false (Err refusal) is same e = absurd cc
    by_number false (Ok rest) is same e =
        let low : number ≤ 64 = ltb-false _ _ is in
        let there : line ∷ rest ≡ lines = cc in
        let few = others rest low same in
        let short = one line refl in
        let size : length (template_text (line ∷ rest)) ≡ length (line_text line) + 1 + length (template_text rest) =
        omega (
          arith,
          length-append (line_text line ++ (10 ∷ [])) (template_text rest),
          length-append (line_text line) (10 ∷ []),
        ) in
        subst (λ (all : List TemplateLine). length (template_text all) + 642 * number ≤ 41730) there
        (omega (arith, few, short, size))

lines_small : (number : ℕ) (texts : List (List ℕ)) (lines : List TemplateLine) → number ≤ 65
    → template_from number texts ≡ Ok lines → length (template_text lines) + 642 * number ≤ 41730
lines_small number [] lines low e =
    let none : [] ≡ lines = cc in
    subst (λ (all : List TemplateLine). length (template_text all) + 642 * number ≤ 41730) none (omega arith)
lines_small number (text ∷ texts) lines low e =
    with_line_small number (line_of text) (template_from (number + 1) texts) lines
    (λ line. words_small (words_of text) line)
    (λ rest few. lines_small (number + 1) texts rest (omega arith)) e

pub template_room : (lines : List TemplateLine) → template_of (template_text lines) ≡ Ok lines
    → length (template_text lines) < 2 ^ 16
template_room lines is =
    let few : length (template_text lines) + 642 * 1 ≤ 41730 =
    lines_small 1 (lines_of (template_text lines)) lines (omega arith) is in
    omega (arith, few)
