-- What a template is spelled as reads back as that template.
use Rattle.std.proofs.Common.{◌≡◌, ℕ, ◌+◌, ◌≤◌, nat_le, true, false, List, [], ◌∷◌, ◌++◌, length, Result, Ok, refl, subst, ap, ◌∙◌, append_assoc, arith}
use Rattle.std.specs.List.{list_all, AllByRecursion}
use Rattle.std.proofs.lemmas.Bool.{leb-true}
use Rattle.text_lines.specs.Lines.{is_newline, HasNoNewline, lines_of}
use Rattle.text_lines.proofs.Pieces.{lines_of-newline}
use Rattle.smack_rules.specs.Label.{is_label_byte}
use Rattle.smack_rules.specs.Spelling.{parted}
use Rattle.smack_rules.proofs.Spelled.{IsPlain}
use Rattle.rule_templates.specs.declared.lines.TemplateLine.{TemplateLine}
use Rattle.rule_templates.specs.declared.templates.Template.{Template}
use Rattle.rule_templates.specs.declared.templates.TemplateRefusal.{TemplateRefusal}
use Rattle.rule_templates.specs.TemplateRead.{ReadsAs}
use Rattle.rule_templates.specs.TemplateLine.{line_of, line_text, is_kept_line}
use Rattle.rule_templates.specs.Template.{with_front, template_from, template_of, template_text, is_template}
use Rattle.rule_templates.proofs.LineSpelled.{both, line_words, line_words-plain, line_of-line_text}
use Rattle.rule_templates.proofs.Reading.{with_line-right}

HasNoNewline-append : (front back : List ℕ) → HasNoNewline front → HasNoNewline back → HasNoNewline (front ++ back)
HasNoNewline-append [] back f b = b
HasNoNewline-append (byte ∷ front) back f b = (f.0, HasNoNewline-append front back f.1 b)

no_newline : (byte : ℕ) → is_label_byte byte ≡ true → is_newline byte ≡ false
no_newline byte h = grind arith

HasNoNewline-plain : (word : List ℕ) → list_all is_label_byte word ≡ true → HasNoNewline word
HasNoNewline-plain [] h = tt
HasNoNewline-plain (byte ∷ word) h =
    let parts = both (is_label_byte byte) (list_all is_label_byte word) h in
    (no_newline byte parts.0, HasNoNewline-plain word parts.1)

HasNoNewline-parted : (words : List (List ℕ)) → AllByRecursion IsPlain words → HasNoNewline (parted words)
HasNoNewline-parted [] h = tt
HasNoNewline-parted (word ∷ []) h = HasNoNewline-plain word h.0.bytes
HasNoNewline-parted (word ∷ next ∷ words) h =
    HasNoNewline-append word (32 ∷ parted (next ∷ words)) (HasNoNewline-plain word h.0.bytes)
    (refl, HasNoNewline-parted (next ∷ words) h.1)

-- the lines of a text that starts with the spelling of a line
lines_of-line_text : (line : TemplateLine) (lines : List TemplateLine) → is_kept_line line ≡ true
    → lines_of (template_text (line ∷ lines)) ≡ line_text line ∷ lines_of (template_text lines)
lines_of-line_text line lines kept =
    ap lines_of (append_assoc (line_text line) (10 ∷ []) (template_text lines))
    ∙ lines_of-newline (line_text line) (template_text lines) (HasNoNewline-parted (line_words line) (line_words-plain line kept))

template_from-template_text : (number : ℕ) (lines : List TemplateLine) → list_all is_kept_line lines ≡ true
    → number + length lines ≤ 65 → template_from number (lines_of (template_text lines)) ≡ Ok lines
template_from-template_text number [] kept few = refl
template_from-template_text number (line ∷ lines) kept few =
    let parts = both (is_kept_line line) (list_all is_kept_line lines) kept in
    let later = template_from (number + 1) (lines_of (template_text lines)) in
    ap (template_from number) (lines_of-line_text line lines parts.0)
    ∙ with_line-right number (line_of (line_text line)) line later (line_of-line_text line parts.0) (omega arith)
    ∙ ap (with_front (line ∷ [])) (template_from-template_text (number + 1) lines parts.1 (omega arith))

-- a text that was written is read as the template that it was written from
pub template_of-template_text : (lines : List TemplateLine) → is_template lines ≡ true → template_of (template_text lines) ≡ Ok lines
template_of-template_text lines sound =
    let parts = both (nat_le (length lines) 64) (list_all is_kept_line lines) sound in
    let few : length lines ≤ 64 = leb-true (length lines) 64 parts.0 in
    template_from-template_text 1 lines parts.1 (omega arith)

-- What reads a text reads it so too, where it is the spelling of a template.
pub reads_canonical : (result : Result Template TemplateRefusal) (text : List ℕ) (lines : List TemplateLine)
    → ReadsAs result (template_of text) → is_template lines ≡ true → text ≡ template_text lines → ReadsAs result (Ok lines)
reads_canonical result text lines reads sound is =
    subst (ReadsAs result) (ap template_of is ∙ template_of-template_text lines sound) reads
