-- What a run of `smack-access` reads and answers.
use Rattle.std.specs.Prelude.{◌≡◌, ◌<◌, ◌+◌, ◌⊎◌, ℕ, List, [], ◌∷◌, length, Option, Some, None, Result, Ok, Err}
use Rattle.text_lines.specs.Lines.{pieces_of, lines_within}
use Rattle.smack_rules.specs.declared.modes.Modes.{Modes}
use Rattle.smack_rules.specs.declared.rule.Rule.{Rule}
use Rattle.smack_rules.specs.Rule.{line_rule}
use Rattle.smack_rules.specs.RuleText.{with_line}
use Rattle.smack_rules.specs.Effective.{effective}
use Rattle.smack_rules.specs.Decision.{decision}
use Rattle.line_answers.specs.Answers.{decided_text}
use Rattle.run_endings.specs.Outside.{SourceSeen, HadInput}
use Rattle.run_endings.specs.Saying.{Said}
use Rattle.run_endings.specs.declared.endings.Ending.{Ending}
use Rattle.run_endings.specs.declared.endings.Ending.TheVariants.{Done, Memory, Line, Source, Sink}
use Rattle.access_runs.specs.Limits.{most_rules_bytes}

-- the rules of these lines, the first of which has this number, or the number of the first that is no rule
abbrev pub rules_of : ℕ → List (Option (List ℕ)) → Result (List Rule) ℕ
rules_of number [] = Ok []
rules_of number (None ∷ lines) = Err number
rules_of number (Some line ∷ lines) = with_line number (line_rule line) (rules_of (number + 1) lines)

-- the rules of a text, or the number of its first wrong line
abbrev pub rules_read : List ℕ → Result (List Rule) ℕ
rules_read text = rules_of 1 (lines_within most_rules_bytes (pieces_of text))

-- the input was read to its end, and this is the answer to a request under its rules
pub record IsDecided (subject object : List ℕ) (asked : Modes) (input rest answer : List ℕ) : Type 0 where
  pub rules : List Rule
  pub read : rest ≡ []
  pub right : rules_read input ≡ Ok rules
  pub answered : answer ≡ decided_text (decision subject object asked (effective rules subject object))

-- the input was read to its end, or past the longest text of rules
abbrev pub IsReadThrough : List ℕ → List ℕ → Type 0
IsReadThrough input rest = (rest ≡ []) ⊎ (length rest + most_rules_bytes < length input)

-- The input, what is left of it, and the answer, for each way in which the run ends.
abbrev pub AccessAnswers : List ℕ → List ℕ → Modes → Ending → List ℕ → List ℕ → List ℕ → Type 0
AccessAnswers subject object asked Done input rest answer = IsDecided subject object asked input rest answer
AccessAnswers subject object asked Sink input rest answer = IsDecided subject object asked input rest answer
AccessAnswers subject object asked (Line number) input rest answer =
    IsReadThrough input rest × (rules_read input ≡ Err number) × (answer ≡ [])
AccessAnswers subject object asked Memory input rest answer = answer ≡ []
AccessAnswers subject object asked Source input rest answer = answer ≡ []
AccessAnswers subject object asked ending input rest answer = ⊥

-- The run of a request.
pub record RunsAccess (subject object : List ℕ) (asked : Modes) (said : Said) (ending : Ending)
    (before after : SourceSeen)
    : Type 0 where
  pub input : List ℕ
  pub rest : List ℕ
  pub had : HadInput before.left after.left input rest
  pub answered : AccessAnswers subject object asked ending input rest said.due
