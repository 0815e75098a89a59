-- Rules that follow one another: what they make of a pair's modes.
use Rattle.std.proofs.Common.{◌≡◌, ℕ, ◌+◌, ◌<◌, length, take, drop, get_or, cond, List, [], ◌∷◌, ◌++◌, reverse, Some, refl, sym, ap, ◌∙◌}
use Rattle.std.proofs.lemmas.List.{reverse-append, take-append-drop, drop_more}
use Rattle.std.proofs.lemmas.Option.{cond_some}
use Rattle.smack_rules.specs.declared.modes.Modes.{Modes}
use Rattle.smack_rules.specs.declared.rule.Rule.{Rule}
use Rattle.smack_rules.specs.declared.rule.Rule.TheVariants.{Set, Adjust}
use Rattle.smack_rules.specs.Modes.{no_access, union, without}
use Rattle.smack_rules.specs.Rule.{is_pair}
use Rattle.smack_rules.specs.Effective.{looking_back, effective_from, effective}
use Rattle.smack_rules.specs.parts.Setting.{modes_set}

-- newer rules see what the earlier ones left
looking_back-append : (start : Modes) (s o : List ℕ) (newer earlier : List Rule)
    → looking_back start s o (newer ++ earlier) ≡ looking_back (looking_back start s o earlier) s o newer
looking_back-append start s o [] earlier = refl
looking_back-append start s o (Set subject object modes ∷ newer) earlier =
    ap (cond (is_pair subject object s o) modes) (looking_back-append start s o newer earlier)
looking_back-append start s o (Adjust subject object allow deny ∷ newer) earlier =
    ap (λ m. cond (is_pair subject object s o) (without (union m allow) deny) m) (looking_back-append start s o newer earlier)

pub effective_from-append : (start : Modes) (rules more : List Rule) (s o : List ℕ)
    → effective_from start (rules ++ more) s o ≡ effective_from (effective_from start rules s o) more s o
effective_from-append start rules more s o =
    ap (looking_back start s o) (reverse-append rules more) ∙ looking_back-append start s o (reverse more) (reverse rules)

-- the first of some rules, and then the others
pub effective_from-cons : (start : Modes) (rule : Rule) (more : List Rule) (s o : List ℕ)
    → effective_from start (rule ∷ more) s o ≡ effective_from (effective_from start (rule ∷ []) s o) more s o
effective_from-cons start rule more s o = effective_from-append start (rule ∷ []) more s o

set_to : (start : Modes) (s o : List ℕ) (rule : Rule) (modes : Modes) → modes_set s o rule ≡ Some modes
    → effective_from start (rule ∷ []) s o ≡ modes
set_to start s o (Set subject object set) modes h =
    let found = cond_some (is_pair subject object s o) _ _ h in
    rw found.0 found.1
set_to start s o (Adjust subject object allow deny) modes h = cc

-- nothing before a `Set` of the pair counts
pub effective-set : (rules : List Rule) (at : ℕ) (rule : Rule) (modes : Modes) (s o : List ℕ) → at < length rules
    → rule ≡ get_or rules at rule → modes_set s o rule ≡ Some modes
    → effective_from modes (drop (at + 1) rules) s o ≡ effective rules s o
effective-set rules at rule modes s o below is sets =
    let front = take at rules in
    let rest = drop (at + 1) rules in
    let parts : rules ≡ front ++ (rule ∷ rest) =
    sym (take-append-drop at rules) ∙ ap (λ l. front ++ l) (drop_more rules at rule below ∙ ap (λ r. r ∷ rest) (sym is)) in
    sym (ap (λ l. effective l s o) parts ∙ effective_from-append no_access front (rule ∷ rest) s o
    ∙ effective_from-cons _ rule rest s o
    ∙ ap (λ m. effective_from m rest s o) (set_to (effective front s o) s o rule modes sets))
