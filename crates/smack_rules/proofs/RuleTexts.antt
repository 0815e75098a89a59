-- Rule texts, taken apart behind their first lines.
use Rattle.std.proofs.Common.{◌≡◌, ℕ, ◌+◌, cond, List, [], ◌∷◌, ◌++◌, Option, Some, None, IsSomeAnd, Result, Ok, Err, IsOk, refl, sym, ap, subst, ◌∙◌, arith}
use Rattle.std.specs.List.{position_from}
use Rattle.std.specs.Result.{is_err}
use Rattle.std.proofs.lemmas.Iterator.Adapters.{position_from-zero}
use Rattle.std.proofs.lemmas.List.{append_assoc}
use Rattle.text_lines.specs.Lines.{lines_of}
use Rattle.std.specs.Option.{option_to_list}
use Rattle.smack_rules.specs.declared.rule.Rule.{Rule}
use Rattle.smack_rules.specs.declared.rule.LineRefusal.{LineRefusal}
use Rattle.smack_rules.specs.declared.table.LoadRefusal.{LoadRefusal}
use Rattle.smack_rules.specs.declared.table.LoadRefusal.TheVariants.{BadLine, Memory}
use Rattle.smack_rules.specs.Rule.{line_rule}
use Rattle.smack_rules.specs.RuleText.{with_front, with_line, rules_from, rules_of, RefusesText, is_wrong_line, NamesFirstWrongLine}

pub with_front-none : (later : Result (List Rule) ℕ) → with_front [] later ≡ later
with_front-none (Ok rules) = refl
with_front-none (Err line) = refl

pub with_front-append : (front more : List Rule) (later : Result (List Rule) ℕ)
    → with_front front (with_front more later) ≡ with_front (front ++ more) later
with_front-append front more (Ok rules) = ap Ok (sym (append_assoc front more rules))
with_front-append front more (Err line) = refl

-- the lines behind a front of rules, where the first line is right
pub with_line-front : (front : List Rule) (number : ℕ) (line : Result (Option Rule) LineRefusal) (rule : Option Rule)
    (later : Result (List Rule) ℕ) → line ≡ Ok rule
    → with_front front (with_line number line later) ≡ with_front (front ++ option_to_list rule) later
with_line-front front number line rule later h =
    ap (λ l. with_front front (with_line number l later)) h ∙ with_front-append front (option_to_list rule) later

right-front : (front : List Rule) (later : Result (List Rule) ℕ) → IsOk later → IsOk (with_front front later)
right-front front (Ok rules) right = refl
right-front front (Err line) right = cc

-- a refusal behind a front of rules
pub RefusesText-front : (refusal : LoadRefusal) (front : List Rule) (later : Result (List Rule) ℕ) → RefusesText refusal later
    → RefusesText refusal (with_front front later)
RefusesText-front (BadLine number) front later h = ap (with_front front) h
RefusesText-front (Memory error) front later h = right-front front later h

-- a refusal of the lines from one on, behind those that are rules, is one of the text
pub RefusesText-behind : (refusal : LoadRefusal) (text rest line after : List ℕ) (front : List Rule) (number : ℕ)
    → lines_of rest ≡ line ∷ lines_of after → with_front front (rules_from number (lines_of rest)) ≡ rules_of text
    → RefusesText refusal (with_line number (line_rule line) (rules_from (number + 1) (lines_of after)))
    → RefusesText refusal (rules_of text)
RefusesText-behind refusal text rest line after front number lines taken refused =
    subst (RefusesText refusal) (ap (λ lines. with_front front (rules_from number lines)) (sym lines) ∙ taken)
    (RefusesText-front refusal front (with_line number (line_rule line) (rules_from (number + 1) (lines_of after))) refused)

-- nothing is left behind the rules of a text
pub right-whole : (text rest : List ℕ) (front : List Rule) (number : ℕ) → rest ≡ []
    → with_front front (rules_from number (lines_of rest)) ≡ rules_of text → IsOk (rules_of text)
right-whole text rest front number none taken =
    subst IsOk (ap (λ rest. with_front front (rules_from number (lines_of rest))) (sym none) ∙ taken) refl

-- ---- the first wrong line

wrong-front : (front : List Rule) (later : Result (List Rule) ℕ) (line : ℕ) → with_front front later ≡ Err line → later ≡ Err line
wrong-front front (Ok rules) line wrong = cc
wrong-front front (Err number) line wrong = wrong

ok-front : (front : List Rule) (later : Result (List Rule) ℕ) → IsOk (with_front front later) → IsOk later
ok-front front (Ok rules) right = refl
ok-front front (Err number) right = cc

wrong_here : (line_is : Result (Option Rule) LineRefusal) (later : Result (List Rule) ℕ) (found : Option ℕ) (number at line : ℕ)
    → number ≡ at + 1 → with_line number line_is later ≡ Err line
    → (later ≡ Err line → IsSomeAnd found (λ place. line ≡ place + 1))
    → IsSomeAnd (cond (is_err line_is) (Some at) found) (λ place. line ≡ place + 1)
wrong_here (Ok rule) later found number at line is wrong behind = behind (wrong-front (option_to_list rule) later line wrong)
wrong_here (Err refusal) later found number at line is wrong behind = let same : number ≡ line = cc in sym same ∙ is

wrong_from : (lines : List (List ℕ)) (number at line : ℕ) → number ≡ at + 1 → rules_from number lines ≡ Err line
    → IsSomeAnd (position_from is_wrong_line at lines) (λ place. line ≡ place + 1)
wrong_from [] number at line is wrong = cc
wrong_from (first ∷ lines) number at line is wrong =
    wrong_here (line_rule first) (rules_from (number + 1) lines) (position_from is_wrong_line (at + 1) lines) number at line is wrong
    (wrong_from lines (number + 1) (at + 1) line (omega (arith, is)))

none_here : (line_is : Result (Option Rule) LineRefusal) (later : Result (List Rule) ℕ) (found : Option ℕ) (number at : ℕ)
    → IsOk (with_line number line_is later) → (IsOk later → found ≡ None) → cond (is_err line_is) (Some at) found ≡ None
none_here (Ok rule) later found number at right behind = behind (ok-front (option_to_list rule) later right)
none_here (Err refusal) later found number at right behind = cc

none_from : (lines : List (List ℕ)) (number at : ℕ) → IsOk (rules_from number lines) → position_from is_wrong_line at lines ≡ None
none_from [] number at right = refl
none_from (first ∷ lines) number at right =
    none_here (line_rule first) (rules_from (number + 1) lines) (position_from is_wrong_line (at + 1) lines) number at right
    (none_from lines (number + 1) (at + 1))

-- a refusal names the first wrong line of the text
pub NamesFirstWrongLine-refused : (refusal : LoadRefusal) (text : List ℕ) → RefusesText refusal (rules_of text)
    → NamesFirstWrongLine refusal text
NamesFirstWrongLine-refused (BadLine number) text wrong =
    let found = position_from-zero is_wrong_line (lines_of text) in
    let Names : Option ℕ → Type 0 = λ found. IsSomeAnd found (λ place. number ≡ place + 1) in
    subst Names (sym found) (wrong_from (lines_of text) 1 0 number (omega arith) wrong)
NamesFirstWrongLine-refused (Memory error) text right =
    position_from-zero is_wrong_line (lines_of text) ∙ none_from (lines_of text) 1 0 right
