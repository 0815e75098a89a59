-- Rules and their lines, from the Linux kernel's Documentation/admin-guide/LSM/Smack.
use Rattle.std.specs.Prelude.{◌≡◌, ℕ, Bool, ◌&&◌, List, [], ◌∷◌, Option, Some}
use Rattle.std.specs.Prelude.{None, IsSome, is_none, Result, Ok, Err, IsOkAnd, if◌then◌else◌}
use Rattle.std.specs.Str.{bytes_eq}
use Rattle.smack_rules.specs.declared.modes.Modes.{Modes}
use Rattle.smack_rules.specs.declared.rule.Rule.{Rule}
use Rattle.smack_rules.specs.declared.rule.Rule.TheVariants.{Set, Adjust}
use Rattle.smack_rules.specs.declared.rule.LineRefusal.{LineRefusal}
use Rattle.smack_rules.specs.declared.rule.LineRefusal.TheVariants.{Form, Memory}
use Rattle.smack_rules.specs.Label.{label_fault}
use Rattle.smack_rules.specs.Modes.{modes_of}
use Rattle.smack_rules.specs.Words.{words_of}

-- whether a rule for the first two labels is a rule for the last two
abbrev pub is_pair : List ℕ → List ℕ → List ℕ → List ℕ → Bool
is_pair subject object s o = bytes_eq subject s && bytes_eq object o

abbrev pub is_label : List ℕ → Bool
is_label word = is_none (label_fault word)

-- what a mode word sets
abbrev pub set_rule : List ℕ → List ℕ → Option Modes → Result (Option Rule) LineRefusal
set_rule subject object (Some modes) = Ok (Some (Set subject object modes))
set_rule subject object None = Err Form

-- what two mode words add and take out
abbrev pub adjust_rule : List ℕ → List ℕ → Option Modes → Option Modes → Result (Option Rule) LineRefusal
adjust_rule subject object (Some allow) (Some deny) = Ok (Some (Adjust subject object allow deny))
adjust_rule subject object (Some allow) None = Err Form
adjust_rule subject object None deny = Err Form

-- the rule for two labels that the words behind them give: one mode word sets, two adjust
abbrev pub rule_behind : List ℕ → List ℕ → List (List ℕ) → Result (Option Rule) LineRefusal
rule_behind subject object (modes ∷ []) = set_rule subject object (modes_of modes)
rule_behind subject object (allow ∷ deny ∷ []) = adjust_rule subject object (modes_of allow) (modes_of deny)
rule_behind subject object _ = Err Form

-- the rule that a line's words give; no word, no rule
abbrev pub rule_of_words : List (List ℕ) → Result (Option Rule) LineRefusal
rule_of_words [] = Ok None
rule_of_words (word ∷ []) = Err Form
rule_of_words (subject ∷ object ∷ modes) =
    if is_label subject && is_label object then rule_behind subject object modes else Err Form

-- the rule of a line, or that it has another form
abbrev pub line_rule : List ℕ → Result (Option Rule) LineRefusal
line_rule line = rule_of_words (words_of line)

-- A refusal is a line of another form. Out of memory comes only where the line is a rule.
abbrev pub RefusesLine : LineRefusal → Result (Option Rule) LineRefusal → Type 0
RefusesLine Form line = line ≡ Err Form
RefusesLine (Memory error) line = IsOkAnd line IsSome

-- what reading a line gives
abbrev pub GivesLine : Result (Option Rule) LineRefusal → Result (Option Rule) LineRefusal → Type 0
GivesLine (Ok rule) line = line ≡ Ok rule
GivesLine (Err refusal) line = RefusesLine refusal line
