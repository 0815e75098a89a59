-- The lines of `stamp` and of `template`, written and read.
use Rattle.std.proofs.Common.{◌≡◌, ℕ, ◌+◌, ◌≤◌, Bool, true, false, not, cond, ◌&&◌, nat_le, decimal, List, [], ◌∷◌}
use Rattle.std.proofs.Common.{◌++◌, length, Option, Some, None, Result, Ok, Err, refl, sym, ap, subst, ◌∙◌, arith}
use Rattle.std.proofs.Common.{length-append, append-nil}
use Rattle.std.specs.Option.{option_map}
use Rattle.std.specs.List.{AllByRecursion, list_all}
use Rattle.std.proofs.lemmas.Bool.{le-leb, leb-true}
use Rattle.text_lines.specs.Lines.{is_newline, HasNoNewline}
use Rattle.text_lines.proofs.Newlines.{HasNoNewline-append}
use Rattle.smack_rules.specs.Label.{is_label_byte}
use Rattle.smack_rules.specs.Rule.{is_label}
use Rattle.smack_rules.specs.Spelling.{parted}
use Rattle.smack_rules.specs.Words.{words_of}
use Rattle.smack_rules.proofs.Spelled.{IsPlain}
use Rattle.cynara_keys.specs.Text.{same_text}
use Rattle.cynara_keys.proofs.Order.{same_text-≡, ≡-same_text}
use Rattle.bucket_store.proofs.Lists.{All-weaker}
use Rattle.rule_templates.specs.declared.lines.Word.{Word}
use Rattle.rule_templates.specs.declared.lines.Word.TheVariants.{Fixed, OfPackage}
use Rattle.rule_templates.specs.declared.lines.Change.{Change}
use Rattle.rule_templates.specs.declared.lines.TemplateLine.{TemplateLine}
use Rattle.rule_templates.specs.declared.placeholders.Placeholder.{Placeholder}
use Rattle.rule_templates.specs.Limits.{most_template_lines}
use Rattle.rule_templates.specs.Placeholder.{placeholder_of, begins_with_tilde}
use Rattle.rule_templates.specs.TemplateLine.{line_text, is_label_word, word_of, change_of, line_with, line_of_words}
use Rattle.rule_templates.specs.TemplateLine.{line_of, is_kept_word, is_kept_line}
use Rattle.rule_templates.specs.Template.{template_text, is_template}
use Rattle.rule_templates.proofs.LineSpelled.{both, line_words, line_words-plain, line_of-line_text}
use Rattle.desk_state.specs.Limits.{last_commit}
use Rattle.set_text.specs.Lines.{text_of, whole_lines, values_of}
use Rattle.set_text.specs.Reading.{only}
use Rattle.set_text.specs.Stamp.{stamp_text, read_commit, commits_of}
use Rattle.set_text.specs.Template.{spelt_line, template_line_of, template_line_fits, template_lines_of}
use Rattle.set_text.proofs.Numbering.{decimal_of-decimal, decimal_of-text}
use Rattle.set_text.proofs.Refusing.{some-if}
use Rattle.set_text.proofs.Stamping.{commits-one}
use Rattle.set_text.proofs.round.Plain.{plain-decimal}
use Rattle.set_text.proofs.round.Results.{some-made}
use Rattle.set_text.proofs.round.Values.{few-fit, fit-few, values-read, values-spelled, some-line, lines-text, reading}
use Rattle.set_text.proofs.round.Values.{Gave}

-- ---- the stamp

pub stamp-read : (commit : ℕ) → commit ≤ last_commit → commits_of (stamp_text commit) ≡ Ok (commit ∷ [])
stamp-read commit small =
    commits-one (stamp_text commit) (decimal commit) [] commit (append-nil (decimal commit ++ 10 ∷ []))
    (plain-decimal commit (omega (arith, small))).newline
    (decimal_of-decimal last_commit commit (le-leb commit last_commit small) (omega (arith, small))) refl

one-commit : (texts : List (List ℕ)) (commits : List ℕ) (first : ℕ) (rest : List ℕ) → commits ≡ first ∷ rest
    → Gave read_commit [] texts commits
    → (texts ≡ decimal (only commits) ∷ []) × (only commits ≤ last_commit)
one-commit [] [] first rest is gave = cc
one-commit [] (commit ∷ commits) first rest is gave = absurd gave
one-commit (text ∷ texts) [] first rest is gave = absurd gave
one-commit (text ∷ []) (commit ∷ []) first rest is gave =
    let told = decimal_of-text last_commit text commit gave.0 in
    (ap (λ (text : List ℕ). text ∷ []) (sym told.0), told.1)
one-commit (text ∷ []) (commit ∷ next ∷ commits) first rest is gave = absurd gave.1
one-commit (text ∷ other ∷ texts) (commit ∷ []) first rest is gave = absurd gave.1
one-commit (text ∷ other ∷ texts) (commit ∷ next ∷ commits) first rest is gave =
    let wrong : None ≡ Some next = gave.1.0 in cc

pub stamp-spelled : (text : List ℕ) (commits : List ℕ) → commits_of text ≡ Ok commits
    → (text ≡ stamp_text (only commits)) × (only commits ≤ last_commit)
stamp-spelled text commits h =
    let some = some-line (values_of read_commit text) commits h in
    let told = reading read_commit [] (whole_lines text) commits some.0 in
    let parts = one-commit told.texts commits some.1 some.2 some.3
    (subst (Gave read_commit [] told.texts) (sym told.behind) told.gave) in
    (lines-text text told.texts told.whole ∙ ap (text_of (λ line. line)) parts.0, parts.1)

-- ---- a line of the template

no_newline : (byte : ℕ) → is_label_byte byte ≡ true → is_newline byte ≡ false
no_newline byte h = grind arith

newline-plain : (word : List ℕ) → list_all is_label_byte word ≡ true → HasNoNewline word
newline-plain [] h = tt
newline-plain (byte ∷ word) h =
    let parts = both (is_label_byte byte) (list_all is_label_byte word) h in
    (no_newline byte parts.0, newline-plain word parts.1)

newline-parted : (words : List (List ℕ)) → AllByRecursion IsPlain words → HasNoNewline (parted words)
newline-parted [] h = tt
newline-parted (word ∷ []) h = newline-plain word h.0.bytes
newline-parted (word ∷ next ∷ words) h =
    HasNoNewline-append word (32 ∷ parted (next ∷ words)) (newline-plain word h.0.bytes)
    (refl, newline-parted (next ∷ words) h.1)

module _ (line : TemplateLine) (is : is_kept_line line ≡ true) where
  pub template-newline : HasNoNewline (line_text line)
  template-newline = newline-parted (line_words line) (line_words-plain line is)

  pub template-read : template_line_of (line_text line) ≡ Some line
  template-read =
      ap (spelt_line (line_text line)) (line_of-line_text line is)
      ∙ ap (λ b. cond b (Some line) None) (≡-same_text (line_text line) (line_text line) refl)

word-kept : (text : List ℕ) (word : Word) → word_of text ≡ Some word → is_kept_word word ≡ true
word-kept text word h = by (begins_with_tilde text) refl h
  where
    by : (tilde : Bool) → begins_with_tilde text ≡ tilde
        → cond tilde (option_map OfPackage (placeholder_of text))
        (cond (is_label text) (Some (Fixed text)) None) ≡ Some word
        → is_kept_word word ≡ true
    by true is h =
        let made = some-made (λ (placeholder : Placeholder). OfPackage placeholder) (placeholder_of text) word h in
        ap is_kept_word (sym made.2)
    by false is h =
        let parts = some-if (is_label text) (Fixed text) word h in
        ap is_kept_word (sym parts.1) ∙ ap (λ b. b && not (begins_with_tilde text)) parts.0 ∙ ap not is

line-kept : (subject object : Option Word) (change : Option Change) (line : TemplateLine)
    → ((word : Word) → subject ≡ Some word → is_kept_word word ≡ true)
    → ((word : Word) → object ≡ Some word → is_kept_word word ≡ true)
    → line_with subject object change ≡ Ok line → is_kept_line line ≡ true
line-kept subject object None line first second h = cc
line-kept None object (Some change) line first second h = cc
line-kept (Some subject) None (Some change) line first second h = cc
line-kept (Some subject) (Some object) (Some change) line first second h =
    let made : TemplateLine = record { subject = subject; object = object; change = change } in
    let same : made ≡ line = cc in
    ap is_kept_line (sym same) ∙ ap (λ b. b && is_kept_word object) (first subject refl) ∙ second object refl

right-when : {E : Type 0} (b : Bool) (found : Result TemplateLine E) (fault : E) (line : TemplateLine)
    → cond b found (Err fault) ≡ Ok line → found ≡ Ok line
right-when true found fault line h = h
right-when false found fault line h = cc

words-kept : (words : List (List ℕ)) (line : TemplateLine) → line_of_words words ≡ Ok line → is_kept_line line ≡ true
words-kept [] line h = cc
words-kept (word ∷ []) line h = cc
words-kept (subject ∷ object ∷ modes) line h =
    line-kept (word_of subject) (word_of object) (change_of modes) line (word-kept subject) (word-kept object)
    (right-when (is_label_word subject && is_label_word object)
    (line_with (word_of subject) (word_of object) (change_of modes)) _ line h)

spelt-some : {E : Type 0} (text : List ℕ) (found : Result TemplateLine E) (line : TemplateLine)
    → spelt_line text found ≡ Some line
    → (found ≡ Ok line) × (line_text line ≡ text)
spelt-some text (Err fault) line h = cc
spelt-some text (Ok other) line h =
    let parts = some-if (same_text (line_text other) text) other line h in (
      ap (λ (line : TemplateLine). Ok line) parts.1,
      ap line_text (sym parts.1) ∙ same_text-≡ (line_text other) text parts.0,
    )

pub template-spelled : (text : List ℕ) (line : TemplateLine) → template_line_of text ≡ Some line
    → (line_text line ≡ text) × (is_kept_line line ≡ true)
template-spelled text line h =
    let parts = spelt-some text (line_of text) line h in (parts.1, words-kept (words_of text) line parts.0)

-- ---- the template

counted : (before : List TemplateLine) (line : TemplateLine) → length (before ++ line ∷ []) ≡ length before + 1
counted before line = omega (arith, length-append before (line ∷ []))

kept-each : (lines : List TemplateLine) → list_all is_kept_line lines ≡ true
    → AllByRecursion (λ line. is_kept_line line ≡ true) lines
kept-each [] all = tt
kept-each (line ∷ lines) all =
    let parts = both (is_kept_line line) (list_all is_kept_line lines) all in (parts.0, kept-each lines parts.1)

each-kept : (lines : List TemplateLine) → AllByRecursion (λ line. is_kept_line line ≡ true) lines
    → list_all is_kept_line lines ≡ true
each-kept [] all = refl
each-kept (line ∷ lines) all = ap (λ b. b && list_all is_kept_line lines) all.0 ∙ each-kept lines all.1

-- the template of a state is what its lines give
pub template-lines-read : (lines : List TemplateLine) → is_template lines ≡ true
    → template_lines_of (template_text lines) ≡ Ok lines
template-lines-read lines is =
    let parts = both (nat_le (length lines) most_template_lines) (list_all is_kept_line lines) is in
    let few = leb-true (length lines) most_template_lines parts.0 in
    values-read template_line_fits template_line_of line_text lines
    (All-weaker (λ line. is_kept_line line ≡ true)
    (λ line. HasNoNewline (line_text line) × (template_line_of (line_text line) ≡ Some line))
    (λ line is. (template-newline line is, template-read line is)) lines (kept-each lines parts.1))
    (few-fit (λ before. length before) counted most_template_lines [] lines (omega (arith, few)))

-- what the lines give has these lines, and keeps the rules
pub template-lines-spelled : (text : List ℕ) (lines : List TemplateLine) → template_lines_of text ≡ Ok lines
    → (text ≡ template_text lines) × (is_template lines ≡ true)
template-lines-spelled text lines h =
    let told = values-spelled template_line_fits template_line_of line_text
    (λ line. is_kept_line line ≡ true) template-spelled
    text lines h in
    let few = fit-few (λ before. length before) counted most_template_lines [] lines (omega arith) told.fit in (
      told.same,
      ap (λ b. b && list_all is_kept_line lines) (le-leb (length lines) most_template_lines (omega (arith, few)))
          ∙ each-kept lines told.all,
    )
