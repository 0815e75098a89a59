-- A template without placeholders gives each package the rules that its text has as a rule text.
use Rattle.std.proofs.Common.{◌≡◌, ℕ, ◌+◌, nat_lt, cond, ◌&&◌, ◌||◌, Bool, true, false, List, [], ◌∷◌, ◌++◌, Option, Some, None, Result, Ok, Err, refl, sym, ap, ◌∙◌}
use Rattle.std.specs.List.{list_all, flat_map}
use Rattle.std.specs.Option.{option_map}
use Rattle.smack_rules.specs.declared.modes.Modes.{Modes}
use Rattle.smack_rules.specs.declared.rule.Rule.{Rule}
use Rattle.smack_rules.specs.declared.rule.LineRefusal.{LineRefusal}
use Rattle.smack_rules.specs.declared.rule.LineRefusal.TheVariants.{Form as NoRule}
use Rattle.smack_rules.specs.Modes.{modes_of}
use Rattle.smack_rules.specs.Rule.{is_label, set_rule, adjust_rule, rule_behind, rule_of_words}
use Rattle.smack_rules.specs.RuleText.{with_line as with_rule, rules_from}
use Rattle.smack_rules.specs.Words.{words_of}
use Rattle.rule_templates.specs.declared.lines.Word.{Word}
use Rattle.rule_templates.specs.declared.lines.Word.TheVariants.{Fixed, OfPackage}
use Rattle.rule_templates.specs.declared.lines.Change.{Change}
use Rattle.rule_templates.specs.declared.lines.Change.TheVariants.{Set, Adjust}
use Rattle.rule_templates.specs.declared.lines.TemplateLine.{TemplateLine}
use Rattle.rule_templates.specs.declared.lines.LineFault.{LineFault}
use Rattle.rule_templates.specs.declared.lines.LineFault.TheVariants.{Form, UnknownPlaceholder}
use Rattle.rule_templates.specs.declared.placeholders.Placeholder.{Placeholder}
use Rattle.rule_templates.specs.declared.templates.TemplateRefusal.{TemplateRefusal}
use Rattle.rule_templates.specs.declared.templates.TemplateRefusal.TheVariants.{TooMany}
use Rattle.rule_templates.specs.Placeholder.{placeholder_of, begins_with_tilde}
use Rattle.rule_templates.specs.TemplateLine.{word_text, word_of, is_label_word, adjustment, change_of, line_with, line_of, line_of_words, is_fixed_word, is_fixed_line}
use Rattle.rule_templates.specs.Template.{with_line, template_from}
use Rattle.app_registry.specs.Label.{package_label}
use Rattle.app_registry.specs.Registry.{RegistryLists, author_of}
use Rattle.rule_templates.specs.Expansion.{Expanded, word_label, rule_of, rules_with, line_rules, is_process_word, has_process, package_line_rules, expansion}
use Rattle.rule_templates.specs.Processes.{process_labels}
use Rattle.rule_templates.proofs.LineSpelled.{both}
use Rattle.rule_templates.proofs.Reading.{Meaning}

-- a fixed word is the label that stands there
fixed_word : (tilde label : Bool) (placeholder : Option Placeholder) (word : List ℕ) (kept : Word)
    → cond tilde (option_map OfPackage placeholder) (cond label (Some (Fixed word)) None) ≡ Some kept
    → is_fixed_word kept ≡ true → (kept ≡ Fixed word) × (label ≡ true)
fixed_word true label None word kept h fixed = cc
fixed_word true label (Some placeholder) word kept h fixed =
    let is : OfPackage placeholder ≡ kept = cc in
    let not_fixed = ap is_fixed_word is in
    cc
fixed_word false true placeholder word kept h fixed =
    let is : Fixed word ≡ kept = cc in (sym is, refl)
fixed_word false false placeholder word kept h fixed = cc

word_of-fixed : (word : List ℕ) (kept : Word) → word_of word ≡ Some kept → is_fixed_word kept ≡ true
    → (kept ≡ Fixed word) × (is_label word ≡ true)
word_of-fixed word kept h fixed = fixed_word (begins_with_tilde word) (is_label word) (placeholder_of word) word kept h fixed

record HasParts (subject object : Option Word) (change : Option Change) (line : TemplateLine) : Type 0 where
  subject_is : subject ≡ Some line.subject
  object_is : object ≡ Some line.object
  change_is : change ≡ Some line.change

line_with-ok : (subject object : Option Word) (change : Option Change) (line : TemplateLine)
    → line_with subject object change ≡ Ok line → HasParts subject object change line
line_with-ok subject object None line h = cc
line_with-ok (Some subject) (Some object) (Some change) line h =
    let parts : TemplateLine = record { subject = subject; object = object; change = change } in
    let is : parts ≡ line = cc in
    record {
      subject_is = ap (λ (line : TemplateLine). Some line.subject) is;
      object_is = ap (λ (line : TemplateLine). Some line.object) is;
      change_is = ap (λ (line : TemplateLine). Some line.change) is;
    }
line_with-ok (Some subject) None (Some change) line h = cc
line_with-ok None object (Some change) line h = cc

set_case : (modes : Option Modes) (change : Change) (subject object : List ℕ) → option_map Set modes ≡ Some change
    → set_rule subject object modes ≡ Ok (Some (rule_of change subject object))
set_case None change subject object h = cc
set_case (Some modes) change subject object h =
    let is : Set modes ≡ change = cc in ap (λ change. Ok (Some (rule_of change subject object))) is

adjust_case : (allow deny : Option Modes) (change : Change) (subject object : List ℕ) → adjustment allow deny ≡ Some change
    → adjust_rule subject object allow deny ≡ Ok (Some (rule_of change subject object))
adjust_case (Some allow) (Some deny) change subject object h =
    let is : Adjust allow deny ≡ change = cc in ap (λ change. Ok (Some (rule_of change subject object))) is
adjust_case (Some allow) None change subject object h = cc
adjust_case None deny change subject object h = cc

-- the mode words behind two labels make the same change
change_rule : (modes : List (List ℕ)) (change : Change) (subject object : List ℕ) → change_of modes ≡ Some change
    → rule_behind subject object modes ≡ Ok (Some (rule_of change subject object))
change_rule [] change subject object h = cc
change_rule (modes ∷ []) change subject object h = set_case (modes_of modes) change subject object h
change_rule (allow ∷ deny ∷ []) change subject object h = adjust_case (modes_of allow) (modes_of deny) change subject object h
change_rule (allow ∷ deny ∷ more ∷ words) change subject object h = cc

taken : (test : Bool) (line : Result TemplateLine LineFault) (kept : TemplateLine) → cond test line (Err Form) ≡ Ok kept
    → line ≡ Ok kept
taken true line kept h = h
taken false line kept h = cc

-- the rule of a line without placeholders
words_rule : (words : List (List ℕ)) (line : TemplateLine) → line_of_words words ≡ Ok line → is_fixed_line line ≡ true
    → rule_of_words words ≡ Ok (Some (rule_of line.change (word_text line.subject) (word_text line.object)))
words_rule [] line h fixed = cc
words_rule (word ∷ []) line h fixed = cc
words_rule (subject ∷ object ∷ modes) line h fixed =
    let whole = line_with (word_of subject) (word_of object) (change_of modes) in
    let parts = line_with-ok (word_of subject) (word_of object) (change_of modes) line
    (taken (is_label_word subject && is_label_word object) whole line h) in
    let both_fixed = both (is_fixed_word line.subject) (is_fixed_word line.object) fixed in
    let first = word_of-fixed subject line.subject parts.subject_is both_fixed.0 in
    let second = word_of-fixed object line.object parts.object_is both_fixed.1 in
    let behind = rule_behind subject object modes in
    let none : Result (Option Rule) LineRefusal = Err NoRule in
    ap (λ b. cond (b && is_label object) behind none) first.1
    ∙ ap (λ b. cond b behind none) second.1
    ∙ change_rule modes line.change subject object parts.change_is
    ∙ ap (λ word. Ok (Some (rule_of line.change (word_text word) object))) (sym first.0)
    ∙ ap (λ word. Ok (Some (rule_of line.change (word_text line.subject) (word_text word)))) (sym second.0)

word_label-fixed : (for : Expanded) (word : Word) → is_fixed_word word ≡ true → word_label for word ≡ Some (word_text word)
word_label-fixed for (Fixed label) fixed = refl
word_label-fixed for (OfPackage placeholder) fixed = cc

not_process : (word : Word) → is_fixed_word word ≡ true → is_process_word word ≡ false
not_process (Fixed label) fixed = refl
not_process (OfPackage placeholder) fixed = cc

line_rules-fixed : (for : Expanded) (line : TemplateLine) → is_fixed_line line ≡ true
    → line_rules for line ≡ rule_of line.change (word_text line.subject) (word_text line.object) ∷ []
line_rules-fixed for line fixed =
    let parts = both (is_fixed_word line.subject) (is_fixed_word line.object) fixed in
    ap (λ subject. rules_with line.change subject (word_label for line.object)) (word_label-fixed for line.subject parts.0)
    ∙ ap (rules_with line.change (Some (word_text line.subject))) (word_label-fixed for line.object parts.1)

-- a line without placeholders gives its one rule, whatever processes the package has
package_line_rules-fixed : (name : List ℕ) (author : Option (List ℕ)) (processes : List (List ℕ)) (line : TemplateLine)
    → is_fixed_line line ≡ true
    → package_line_rules name author processes line ≡ rule_of line.change (word_text line.subject) (word_text line.object) ∷ []
package_line_rules-fixed name author processes line fixed =
    let parts = both (is_fixed_word line.subject) (is_fixed_word line.object) fixed in
    let alone : has_process line ≡ false =
    ap (λ b. b || is_process_word line.object) (not_process line.subject parts.0) ∙ not_process line.object parts.1 in
    ap (λ b. flat_map (λ process. line_rules (record { name = name; author = author; process = process }) line)
    (cond b processes (package_label name ∷ []))) alone
    ∙ ap (λ rules. rules ++ [])
    (line_rules-fixed (record { name = name; author = author; process = package_label name }) line fixed)

-- a right text has a right first line, and right lines behind it
record FirstLine (line : Result TemplateLine LineFault) (later : Meaning) (lines : List TemplateLine) : Type 0 where
  kept : TemplateLine
  others : List TemplateLine
  line_is : line ≡ Ok kept
  later_is : later ≡ Ok others
  lines_are : lines ≡ kept ∷ others

within : (past : Bool) (number : ℕ) (kept others lines : List TemplateLine)
    → cond past (Err (TooMany number)) (Ok (kept ++ others)) ≡ Ok lines → lines ≡ kept ++ others
within true number kept others lines h = cc
within false number kept others lines h = let is : kept ++ others ≡ lines = cc in sym is

never : (past : Bool) (number : ℕ) (refusal : TemplateRefusal) (lines : List TemplateLine)
    → cond past (Err (TooMany number)) (Err refusal) ≡ Ok lines → ⊥
never true number refusal lines h = cc
never false number refusal lines h = cc

with_line-ok : (number : ℕ) (line : Result TemplateLine LineFault) (later : Meaning) (lines : List TemplateLine)
    → with_line number line later ≡ Ok lines → FirstLine line later lines
with_line-ok number (Err Form) later lines h = cc
with_line-ok number (Err UnknownPlaceholder) later lines h = cc
with_line-ok number (Ok kept) (Err refusal) lines h = absurd (never (nat_lt 64 number) number refusal lines h)
with_line-ok number (Ok kept) (Ok others) lines h =
    record {
      kept = kept;
      others = others;
      line_is = refl;
      later_is = refl;
      lines_are = within (nat_lt 64 number) number (kept ∷ []) others lines h;
    }

pub rules_from-fixed : (number : ℕ) (texts : List (List ℕ)) (lines : List TemplateLine) (registry : RegistryLists)
    (name : List ℕ) → template_from number texts ≡ Ok lines → list_all is_fixed_line lines ≡ true
    → rules_from number texts ≡ Ok (expansion lines registry name)
rules_from-fixed number [] lines registry name h fixed =
    let is : [] ≡ lines = cc in ap (λ lines. Ok (expansion lines registry name)) is
rules_from-fixed number (text ∷ texts) lines registry name h fixed =
    let first = with_line-ok number (line_of text) (template_from (number + 1) texts) lines h in
    let all_fixed = both (is_fixed_line first.kept) (list_all is_fixed_line first.others)
    (sym (ap (list_all is_fixed_line) first.lines_are) ∙ fixed) in
    let later = rules_from-fixed (number + 1) texts first.others registry name first.later_is all_fixed.1 in
    ap (λ line. with_rule number line (rules_from (number + 1) texts))
    (words_rule (words_of text) first.kept first.line_is all_fixed.0)
    ∙ ap (with_rule number (Ok (Some (rule_of first.kept.change (word_text first.kept.subject) (word_text first.kept.object))))) later
    ∙ ap (λ rules. Ok (rules ++ expansion first.others registry name))
    (sym (package_line_rules-fixed name (author_of registry name) (process_labels registry name) first.kept all_fixed.0))
    ∙ ap (λ lines. Ok (expansion lines registry name)) (sym first.lines_are)
