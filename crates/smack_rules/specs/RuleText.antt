-- Rule texts: a rule a line.
use Rattle.std.specs.Prelude.{◌≡◌, ℕ, ◌+◌, Bool, List, [], ◌∷◌, ◌++◌, Option}
use Rattle.std.specs.Prelude.{None, IsSomeAnd, Result, Ok, Err, IsOk, IsOkAnd, position}
use Rattle.std.specs.Result.{is_err}
use Rattle.std.specs.Option.{option_to_list}
use Rattle.text_lines.specs.Lines.{lines_of}
use Rattle.smack_rules.specs.declared.table.RuleTable.{RuleTable}
use Rattle.smack_rules.specs.declared.rule.Rule.{Rule}
use Rattle.smack_rules.specs.declared.rule.LineRefusal.{LineRefusal}
use Rattle.smack_rules.specs.declared.table.LoadRefusal.{LoadRefusal}
use Rattle.smack_rules.specs.declared.table.LoadRefusal.TheVariants.{BadLine, Memory}
use Rattle.smack_rules.specs.Grants.{GrantsAs}
use Rattle.smack_rules.specs.Rule.{line_rule}

-- rules, and those of the lines after them
abbrev pub with_front : List Rule → Result (List Rule) ℕ → Result (List Rule) ℕ
with_front front (Ok rules) = Ok (front ++ rules)
with_front front (Err line) = Err line

-- a line's rule and those of the lines after it, where the line isn't wrong
abbrev pub with_line : ℕ → Result (Option Rule) LineRefusal → Result (List Rule) ℕ → Result (List Rule) ℕ
with_line number (Ok rule) later = with_front (option_to_list rule) later
with_line number (Err refusal) later = Err number

-- the rules of lines that are numbered from a number on
abbrev pub rules_from : ℕ → List (List ℕ) → Result (List Rule) ℕ
rules_from number [] = Ok []
rules_from number (line ∷ lines) = with_line number (line_rule line) (rules_from (number + 1) lines)

-- the rules of a text in its lines' order, or the number from 1 of the first wrong line
abbrev pub rules_of : List ℕ → Result (List Rule) ℕ
rules_of text = rules_from 1 (lines_of text)

-- A refusal is the first wrong line. Out of memory comes only where no line is wrong.
abbrev pub RefusesText : LoadRefusal → Result (List Rule) ℕ → Type 0
RefusesText (BadLine number) rules = rules ≡ Err number
RefusesText (Memory error) rules = IsOk rules

abbrev pub is_wrong_line : List ℕ → Bool
is_wrong_line line = is_err (line_rule line)

-- the place from 0 of the first line of a text that is no rule
abbrev pub first_wrong_line : List ℕ → Option ℕ
first_wrong_line text = position is_wrong_line (lines_of text)

-- what a refusal says of the first wrong line, whose number is counted from 1
abbrev pub NamesFirstWrongLine : LoadRefusal → List ℕ → Type 0
NamesFirstWrongLine (BadLine number) text = IsSomeAnd (first_wrong_line text) (λ place. number ≡ place + 1)
NamesFirstWrongLine (Memory error) text = first_wrong_line text ≡ None

-- What is loaded grants as the rules of the text.
abbrev pub LoadsAs : Result RuleTable LoadRefusal → Result (List Rule) ℕ → Type 0
LoadsAs (Ok table) rules = IsOkAnd rules (GrantsAs table)
LoadsAs (Err refusal) rules = RefusesText refusal rules
