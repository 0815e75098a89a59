-- Rule lines: the one refusal of their form.
use Rattle.std.proofs.Common.{◌≡◌, ℕ, Bool, true, false, cond, ◌&&◌, List, [], ◌∷◌, Option, Some, None, Result, Err}
use Rattle.smack_rules.specs.declared.modes.Modes.{Modes}
use Rattle.smack_rules.specs.declared.rule.Rule.{Rule}
use Rattle.smack_rules.specs.declared.rule.LineRefusal.{LineRefusal}
use Rattle.smack_rules.specs.declared.rule.LineRefusal.TheVariants.{Form}
use Rattle.smack_rules.specs.Modes.{modes_of}
use Rattle.smack_rules.specs.Words.{words_of}
use Rattle.smack_rules.specs.Rule.{set_rule, adjust_rule, rule_behind, is_label, rule_of_words, line_rule}

set_rule-Form : (subject object : List ℕ) (modes : Option Modes) (refusal : LineRefusal)
    → set_rule subject object modes ≡ Err refusal → refusal ≡ Form
set_rule-Form subject object (Some modes) refusal refused = cc
set_rule-Form subject object None refusal refused = cc

adjust_rule-Form : (subject object : List ℕ) (allow deny : Option Modes) (refusal : LineRefusal)
    → adjust_rule subject object allow deny ≡ Err refusal → refusal ≡ Form
adjust_rule-Form subject object (Some allow) (Some deny) refusal refused = cc
adjust_rule-Form subject object (Some allow) None refusal refused = cc
adjust_rule-Form subject object None deny refusal refused = cc

rule_behind-Form : (subject object : List ℕ) (words : List (List ℕ)) (refusal : LineRefusal)
    → rule_behind subject object words ≡ Err refusal → refusal ≡ Form
rule_behind-Form subject object [] refusal refused = cc
rule_behind-Form subject object (modes ∷ []) refusal refused = set_rule-Form subject object (modes_of modes) refusal refused
rule_behind-Form subject object (allow ∷ deny ∷ []) refusal refused =
    adjust_rule-Form subject object (modes_of allow) (modes_of deny) refusal refused
rule_behind-Form subject object (allow ∷ deny ∷ third ∷ words) refusal refused = cc

labelled-Form : (b : Bool) (behind : Result (Option Rule) LineRefusal) (refusal : LineRefusal)
    → (behind ≡ Err refusal → refusal ≡ Form) → cond b behind (Err Form) ≡ Err refusal → refusal ≡ Form
labelled-Form true behind refusal form refused = form refused
labelled-Form false behind refusal form refused = cc

rule_of_words-Form : (words : List (List ℕ)) (refusal : LineRefusal) → rule_of_words words ≡ Err refusal → refusal ≡ Form
rule_of_words-Form [] refusal refused = cc
rule_of_words-Form (word ∷ []) refusal refused = cc
rule_of_words-Form (subject ∷ object ∷ modes) refusal refused =
    labelled-Form (is_label subject && is_label object) (rule_behind subject object modes) refusal
    (rule_behind-Form subject object modes refusal) refused

-- a line is refused for its form alone
pub line_rule-Form : (line : List ℕ) (refusal : LineRefusal) → line_rule line ≡ Err refusal → refusal ≡ Form
line_rule-Form line refusal refused = rule_of_words-Form (words_of line) refusal refused
