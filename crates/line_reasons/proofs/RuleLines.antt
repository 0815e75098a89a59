-- Rule lines, and lines of a template.
use Rattle.std.proofs.Common.{◌≡◌, ℕ, ◌+◌, Bool, true, false, not, cond, ◌&&◌, ◌||◌, List, [], ◌∷◌, length, Option}
use Rattle.std.proofs.Common.{Some, None, Result, Ok, Err, refl, sym, ap, ◌∙◌}
use Rattle.std.specs.Prelude.{is_some, option_map, filter}
use Rattle.std.specs.List.{list_all, list_any, slice_split, onto_first}
use Rattle.cynara_keys.specs.Text.{same_text}
use Rattle.std.specs.Result.{result_ok}
use Rattle.smack_rules.specs.Words.{is_blank, is_word as is_some_word, words_of}
use Rattle.smack_rules.specs.Modes.{modes_of}
use Rattle.smack_rules.specs.declared.modes.Modes.{Modes as ModeSet}
use Rattle.smack_rules.specs.declared.rule.Rule.{Rule}
use Rattle.smack_rules.specs.declared.rule.LineRefusal.{LineRefusal}
use Rattle.smack_rules.specs.declared.rule.LineRefusal.TheVariants as refusal
use Rattle.smack_rules.specs.Rule.{is_label, set_rule, adjust_rule, rule_behind, rule_of_words, line_rule}
use Rattle.rule_templates.specs.declared.lines.Word.{Word}
use Rattle.rule_templates.specs.declared.lines.Change.{Change}
use Rattle.rule_templates.specs.declared.lines.Change.TheVariants.{Set as SetModes}
use Rattle.rule_templates.specs.declared.lines.TemplateLine.{TemplateLine}
use Rattle.rule_templates.specs.declared.lines.LineFault.{LineFault}
use Rattle.rule_templates.specs.declared.lines.LineFault.TheVariants.{Form as WrongForm, UnknownPlaceholder}
use Rattle.rule_templates.specs.declared.templates.TemplateRefusal.TheVariants.{TooMany}
use Rattle.rule_templates.specs.Placeholder.{begins_with_tilde}
use Rattle.rule_templates.specs.TemplateLine.{is_label_word, word_of, adjustment, change_of, line_with, line_of_words}
use Rattle.rule_templates.specs.TemplateLine.{line_of}
use Rattle.rule_templates.specs.Template.{is_full, with_front, with_line, with_one_more}
use Rattle.line_reasons.specs.declared.forms.Form.{Form}
use Rattle.line_reasons.specs.declared.forms.Form.TheVariants.{Label, TemplateLabel, Modes, MoreModes}
use Rattle.line_reasons.specs.parts.Runs.{is_line_of}
use Rattle.line_reasons.specs.parts.Forms.{is_word, placeholder_texts}
use Rattle.line_reasons.specs.parts.Grounds.{template_forms, rule_forms}
use Rattle.line_reasons.proofs.IdentFronts.{tested}
use Rattle.line_reasons.proofs.WordFronts.{word_known}
use Rattle.line_reasons.proofs.Words.{holds_left, fits, rule_words}
use Rattle.line_reasons.proofs.Runs.{some_bytes}

abbrev pub is_right : {A E : Type 0} → Result A E → Bool
is_right (Ok value) = true
is_right (Err error) = false

-- ---- modes at the end

-- one mode word or two
modes_fit : List (List ℕ) → Bool
modes_fit words = fits (Modes ∷ MoreModes ∷ []) words

mode_then : (text : List ℕ) (left : List Form) (words : List (List ℕ)) (known : Bool)
    → holds_left (λ left. fits left words) (cond known (Some left) None) ≡ known && fits left words
mode_then text left words true = refl
mode_then text left words false = refl

and_true : (b : Bool) → b && true ≡ b
and_true true = refl
and_true false = refl

and_false : (b : Bool) → b && false ≡ false
and_false true = refl
and_false false = refl

one_fits : (modes : List ℕ) → modes_fit (modes ∷ []) ≡ is_some (modes_of modes)
unfolding modes_fit
one_fits modes = mode_then modes (MoreModes ∷ []) [] (is_some (modes_of modes)) ∙ and_true (is_some (modes_of modes))

two_fit : (allow deny : List ℕ) → modes_fit (allow ∷ deny ∷ []) ≡ is_some (modes_of allow) && is_some (modes_of deny)
unfolding modes_fit
two_fit allow deny =
    mode_then allow (MoreModes ∷ []) (deny ∷ []) (is_some (modes_of allow))
    ∙ ap (λ b. is_some (modes_of allow) && b)
    (mode_then deny [] [] (is_some (modes_of deny)) ∙ and_true (is_some (modes_of deny)))

three_fit : (allow deny more : List ℕ) (words : List (List ℕ)) → modes_fit (allow ∷ deny ∷ more ∷ words) ≡ false
unfolding modes_fit
three_fit allow deny more words =
    mode_then allow (MoreModes ∷ []) (deny ∷ more ∷ words) (is_some (modes_of allow))
    ∙ ap (λ b. is_some (modes_of allow) && b)
    (mode_then deny [] (more ∷ words) (is_some (modes_of deny)) ∙ and_false (is_some (modes_of deny)))
    ∙ and_false (is_some (modes_of allow))

-- ---- rules

set_right : (subject object : List ℕ) (modes : Option ModeSet)
    → is_right (set_rule subject object modes) ≡ is_some modes
set_right subject object None = refl
set_right subject object (Some modes) = refl

adjust_right : (subject object : List ℕ) (allow deny : Option ModeSet)
    → is_right (adjust_rule subject object allow deny) ≡ is_some allow && is_some deny
adjust_right subject object (Some allow) (Some deny) = refl
adjust_right subject object (Some allow) None = refl
adjust_right subject object None deny = refl

rule_behind_right : (subject object : List ℕ) (words : List (List ℕ))
    → is_right (rule_behind subject object words) ≡ modes_fit words
unfolding modes_fit
rule_behind_right subject object [] = refl
rule_behind_right subject object (modes ∷ []) = set_right subject object (modes_of modes) ∙ sym (one_fits modes)
rule_behind_right subject object (allow ∷ deny ∷ []) = adjust_right subject object (modes_of allow) (modes_of deny)
    ∙ sym (two_fit allow deny)
rule_behind_right subject object (allow ∷ deny ∷ more ∷ words) = sym (three_fit allow deny more words)

right_if : (b : Bool) (rule : Result (Option Rule) LineRefusal)
    → is_right (cond b rule (Err refusal.Form)) ≡ b && is_right rule
right_if true rule = refl
right_if false rule = refl

regroup : (a b c : Bool) → a && b && c ≡ a && (b && c)
regroup true b c = refl
regroup false b c = refl

label_then : (left : List Form) (words : List (List ℕ)) (text : List ℕ)
    → holds_left (λ left. fits left words) (cond (is_word Label text) (Some left) None)
    ≡ is_label text && fits left words
label_then left words text = mode_then text left words (is_word Label text)
    ∙ ap (λ b. b && fits left words) (tested (is_label text) text)

is_none_word : List (List ℕ) → Bool
is_none_word [] = true
is_none_word (word ∷ words) = false

rule_right : (words : List (List ℕ)) → is_right (rule_of_words words) ≡ is_none_word words || fits rule_forms words
unfolding is_none_word modes_fit
rule_right [] = refl
rule_right (word ∷ []) = sym (label_then (Label ∷ Modes ∷ MoreModes ∷ []) [] word ∙ and_false (is_label word))
rule_right (subject ∷ object ∷ modes) =
    right_if (is_label subject && is_label object) (rule_behind subject object modes)
    ∙ regroup (is_label subject) (is_label object) (is_right (rule_behind subject object modes))
    ∙ ap (λ b. is_label subject && (is_label object && b)) (rule_behind_right subject object modes)
    ∙ ap (λ b. is_label subject && b) (sym (label_then (Modes ∷ MoreModes ∷ []) modes object))
    ∙ sym (label_then (Label ∷ Modes ∷ MoreModes ∷ []) (object ∷ modes) subject)

-- a line has no word exactly where it is blank
blank_line : (line : List ℕ) → is_none_word (words_of line) ≡ list_all is_blank line
unfolding is_none_word
blank_line [] = refl
blank_line (byte ∷ bytes) = by_byte (blank_line bytes) (is_blank byte) (slice_split is_blank bytes) refl where
  kept_first : (words : List (List ℕ)) → is_none_word (filter is_some_word (onto_first byte words)) ≡ false
  kept_first [] = ap (λ b. is_none_word (cond b ((byte ∷ []) ∷ []) [])) (some_bytes byte [])
  kept_first (word ∷ words) =
      ap (λ b. is_none_word (cond b ((byte ∷ word) ∷ filter is_some_word words) (filter is_some_word words)))
      (some_bytes byte word)

  by_byte : is_none_word (filter is_some_word (slice_split is_blank bytes)) ≡ list_all is_blank bytes
      → (blank : Bool) (words : List (List ℕ)) → slice_split is_blank bytes ≡ words
      → is_none_word (filter is_some_word
      (cond blank ([] ∷ slice_split is_blank bytes) (onto_first byte (slice_split is_blank bytes))))
      ≡ blank && list_all is_blank bytes
  by_byte later true words is = later
  by_byte later false words is = kept_first (slice_split is_blank bytes)

pub rule_is : (line : List ℕ) → is_right (line_rule line) ≡ list_all is_blank line || is_line_of true rule_forms line
rule_is line =
    rule_right (words_of line)
    ∙ ap (λ b. b || fits rule_forms (words_of line)) (blank_line line)
    ∙ ap (λ b. list_all is_blank line || b) (sym (rule_words rule_forms line))

-- ---- templates

change_known : (words : List (List ℕ)) → is_some (change_of words) ≡ modes_fit words
unfolding modes_fit
change_known [] = refl
change_known (modes ∷ []) = mapped (modes_of modes) ∙ sym (one_fits modes) where
  mapped : (modes : Option ModeSet) → is_some (option_map SetModes modes) ≡ is_some modes
  mapped None = refl
  mapped (Some modes) = refl
change_known (allow ∷ deny ∷ []) = both (modes_of allow) (modes_of deny) ∙ sym (two_fit allow deny) where
  both : (allow deny : Option ModeSet) → is_some (adjustment allow deny) ≡ is_some allow && is_some deny
  both (Some allow) (Some deny) = refl
  both (Some allow) None = refl
  both None deny = refl
change_known (allow ∷ deny ∷ more ∷ words) = sym (three_fit allow deny more words)

line_right : (subject object : Option Word) (change : Option Change)
    → is_right (line_with subject object change) ≡ is_some subject && (is_some object && is_some change)
line_right subject object None = sym
    (ap (λ b. is_some subject && b) (and_false (is_some object)) ∙ and_false (is_some subject))
line_right (Some subject) (Some object) (Some change) = refl
line_right (Some subject) None (Some change) = refl
line_right None object (Some change) = refl

-- a word that is known has the form of one
formed : (text : List ℕ) → is_some (word_of text) ≡ true → is_label_word text ≡ true
formed text is = by_case (begins_with_tilde text) (sym (word_known text) ∙ is) where
  by_case : (tilde : Bool) → cond tilde (list_any (same_text text) placeholder_texts) (is_label text) ≡ true
      → tilde || is_label text ≡ true
  by_case true is = refl
  by_case false is = is

template_if : (s o : Bool) (known_s known_o change : Bool) → (known_s ≡ true → s ≡ true) → (known_o ≡ true → o ≡ true)
    → (line : Result TemplateLine LineFault)
    → is_right line ≡ known_s && (known_o && change)
    → is_right (cond (s && o) line (Err WrongForm)) ≡ known_s && (known_o && change)
template_if true true known_s known_o change from_s from_o line is = is
template_if true false known_s true change from_s from_o line is = (let wrong = from_o refl in cc)
template_if true false known_s false change from_s from_o line is = sym (and_false known_s)
template_if false o true known_o change from_s from_o line is = (let wrong = from_s refl in cc)
template_if false o false known_o change from_s from_o line is = refl

template_right : (words : List (List ℕ)) → is_right (line_of_words words) ≡ fits template_forms words
unfolding modes_fit
template_right [] = refl
template_right (word ∷ []) = sym
    (mode_then word (TemplateLabel ∷ Modes ∷ MoreModes ∷ []) [] (is_some (word_of word)) ∙ and_false
    (is_some (word_of word)))
template_right (subject ∷ object ∷ modes) =
    template_if (is_label_word subject) (is_label_word object) (is_some (word_of subject)) (is_some (word_of object))
    (is_some (change_of modes))
    (formed subject) (formed object) (line_with (word_of subject) (word_of object) (change_of modes))
    (line_right (word_of subject) (word_of object) (change_of modes))
    ∙ ap (λ b. is_some (word_of subject) && (is_some (word_of object) && b)) (change_known modes)
    ∙ ap (λ b. is_some (word_of subject) && b)
    (sym (mode_then object (Modes ∷ MoreModes ∷ []) modes (is_some (word_of object))))
    ∙ sym (mode_then subject (TemplateLabel ∷ Modes ∷ MoreModes ∷ []) (object ∷ modes) (is_some (word_of subject)))

more_right : (lines : List TemplateLine) (line : Result TemplateLine LineFault)
    → is_some (result_ok (with_front lines (with_line (length lines + 1) line (Ok []))))
    ≡ not (is_full lines) && is_right line
more_right lines (Err WrongForm) = sym (and_false (not (is_full lines)))
more_right lines (Err UnknownPlaceholder) = sym (and_false (not (is_full lines)))
more_right lines (Ok line) = by_full (is_full lines) where
  by_full : (full : Bool) → is_some
      (result_ok (with_front lines (cond full (Err (TooMany (length lines + 1))) (with_front (line ∷ []) (Ok [])))))
      ≡ not full && true
  by_full true = refl
  by_full false = refl

pub template_is : (lines : List TemplateLine) (line : List ℕ)
    → is_some (result_ok (with_one_more lines line)) ≡ not (is_full lines) && is_line_of true template_forms line
template_is lines line =
    more_right lines (line_of line)
    ∙ ap (λ b. not (is_full lines) && b) (template_right (words_of line) ∙ sym (rule_words template_forms line))
