-- What a table grants under rules.
use Rattle.std.specs.Prelude.{◌≡◌, ℕ, List, ◌++◌}
use Rattle.smack_rules.specs.declared.rule.Rule.{Rule}
use Rattle.smack_rules.specs.declared.table.PairModes.{PairModes}
use Rattle.smack_rules.specs.Effective.{effective_from, effective}
use Rattle.smack_rules.specs.Table.{granted}

-- the table grants each pair what the rules give it
abbrev pub GrantsAs : List PairModes → List Rule → Type 0
GrantsAs table rules = (s o : List ℕ) → granted table s o ≡ effective rules s o

-- the table grants each pair what the rules make of its modes in an earlier table
abbrev pub GrantsFrom : List PairModes → List PairModes → List Rule → Type 0
GrantsFrom earlier table rules = (s o : List ℕ) → granted table s o ≡ effective_from (granted earlier s o) rules s o

-- where an earlier table grants as some rules do, this one grants as they do with further rules behind them
abbrev pub GrantsBehind : List PairModes → List PairModes → List Rule → Type 0
GrantsBehind earlier table rules = (first : List Rule) → GrantsAs earlier first → GrantsAs table (first ++ rules)
