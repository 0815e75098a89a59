-- What a line is spelled as reads back as that line.
use Rattle.std.proofs.Common.{◌≡◌, ℕ, Bool, true, false, cond, ◌&&◌, ◌||◌, not, List, ◌∷◌, Option, Some, None, is_none, Result, Ok, Err, refl, ap, ◌∙◌}
use Rattle.std.specs.Option.{option_map}
use Rattle.std.specs.List.{AllByRecursion}
use Rattle.smack_rules.specs.declared.label.LabelRefusal.{LabelRefusal}
use Rattle.smack_rules.specs.Label.{label_fault}
use Rattle.smack_rules.specs.Modes.{modes_of, spelling}
use Rattle.smack_rules.specs.Rule.{is_label}
use Rattle.smack_rules.proofs.Spelled.{IsPlain, IsPlain-label, IsPlain-spelling, modes_of-spelling, words_of-parted}
use Rattle.rule_templates.specs.declared.lines.Word.{Word}
use Rattle.rule_templates.specs.declared.lines.Word.TheVariants.{Fixed, OfPackage}
use Rattle.rule_templates.specs.declared.lines.Change.{Change}
use Rattle.rule_templates.specs.declared.lines.Change.TheVariants.{Set, Adjust}
use Rattle.rule_templates.specs.declared.lines.TemplateLine.{TemplateLine}
use Rattle.rule_templates.specs.declared.lines.LineFault.{LineFault}
use Rattle.rule_templates.specs.declared.lines.LineFault.TheVariants.{Form}
use Rattle.rule_templates.specs.declared.placeholders.Placeholder.{Placeholder}
use Rattle.rule_templates.specs.declared.placeholders.Placeholder.TheVariants.{Process, PathRw, PathRo, Author}
use Rattle.rule_templates.specs.Placeholder.{placeholder_of, begins_with_tilde}
use Rattle.rule_templates.specs.TemplateLine.{word_text, change_words, line_text, is_label_word, word_of, change_of, line_with, line_of, line_of_words, adjustment, is_kept_word, is_kept_line}

pub both : (a b : Bool) → (a && b) ≡ true → (a ≡ true) × (b ≡ true)
both true b h = (refl, h)
both false b h = cc

not_true : (b : Bool) → not b ≡ true → b ≡ false
not_true true h = cc
not_true false h = refl

no_fault : (fault : Option LabelRefusal) → is_none fault ≡ true → fault ≡ None
no_fault None h = refl
no_fault (Some fault) h = cc

-- what the word of a line reads as
record ReadsBack (word : Word) : Type 0 where
  plain : IsPlain (word_text word)
  right : is_label_word (word_text word) ≡ true
  again : word_of (word_text word) ≡ Some word

placeholder_reads : (placeholder : Placeholder) → ReadsBack (OfPackage placeholder)
placeholder_reads Process = record { plain = record { some = refl; bytes = refl }; right = refl; again = refl }
placeholder_reads PathRw = record { plain = record { some = refl; bytes = refl }; right = refl; again = refl }
placeholder_reads PathRo = record { plain = record { some = refl; bytes = refl }; right = refl; again = refl }
placeholder_reads Author = record { plain = record { some = refl; bytes = refl }; right = refl; again = refl }

word_reads : (word : Word) → is_kept_word word ≡ true → ReadsBack word
word_reads (OfPackage placeholder) kept = placeholder_reads placeholder
word_reads (Fixed label) kept =
    let parts = both (is_label label) (not (begins_with_tilde label)) kept in
    let no_tilde = not_true (begins_with_tilde label) parts.1 in
    record {
      plain = IsPlain-label label (no_fault (label_fault label) parts.0);
      right = ap (λ b. b || is_label label) no_tilde ∙ parts.0;
      again = ap (λ b. cond b (option_map OfPackage (placeholder_of label)) (cond (is_label label) (Some (Fixed label)) None)) no_tilde
          ∙ ap (λ b. cond b (Some (Fixed label)) None) parts.0;
    }

change_reads : (change : Change) → change_of (change_words change) ≡ Some change
change_reads (Set modes) = ap (option_map Set) (modes_of-spelling modes)
change_reads (Adjust allow deny) =
    ap (λ first. adjustment first (modes_of (spelling deny))) (modes_of-spelling allow)
    ∙ ap (adjustment (Some allow)) (modes_of-spelling deny)

change_plain : (change : Change) → AllByRecursion IsPlain (change_words change)
change_plain (Set modes) = (IsPlain-spelling modes, tt)
change_plain (Adjust allow deny) = (IsPlain-spelling allow, (IsPlain-spelling deny, tt))

-- the words of a line
abbrev pub line_words : TemplateLine → List (List ℕ)
line_words line = word_text line.subject ∷ word_text line.object ∷ change_words line.change

pub line_words-plain : (line : TemplateLine) → is_kept_line line ≡ true → AllByRecursion IsPlain (line_words line)
line_words-plain line kept =
    let parts = both (is_kept_word line.subject) (is_kept_word line.object) kept in
    ((word_reads line.subject parts.0).plain, ((word_reads line.object parts.1).plain, change_plain line.change))

line_of_words-line_words : (line : TemplateLine) → is_kept_line line ≡ true → line_of_words (line_words line) ≡ Ok line
line_of_words-line_words line kept =
    let parts = both (is_kept_word line.subject) (is_kept_word line.object) kept in
    let subject = word_reads line.subject parts.0 in
    let object = word_reads line.object parts.1 in
    let told = line_with (word_of (word_text line.subject)) (word_of (word_text line.object)) (change_of (change_words line.change)) in
    let rest : Result TemplateLine LineFault = Err Form in
    ap (λ b. cond (b && is_label_word (word_text line.object)) told rest) subject.right
    ∙ ap (λ b. cond b told rest) object.right
    ∙ ap (λ word. line_with word (word_of (word_text line.object)) (change_of (change_words line.change))) subject.again
    ∙ ap (λ word. line_with (Some line.subject) word (change_of (change_words line.change))) object.again
    ∙ ap (line_with (Some line.subject) (Some line.object)) (change_reads line.change)

pub line_of-line_text : (line : TemplateLine) → is_kept_line line ≡ true → line_of (line_text line) ≡ Ok line
line_of-line_text line kept =
    ap line_of_words (words_of-parted (line_words line) (line_words-plain line kept)) ∙ line_of_words-line_words line kept
