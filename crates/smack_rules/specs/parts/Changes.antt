-- What rules change in the modes of pairs.
use Rattle.std.specs.Prelude.{◌≡◌, ℕ, List, [], ◌∷◌, if◌then◌else◌}
use Rattle.smack_rules.specs.declared.modes.Modes.{Modes}
use Rattle.smack_rules.specs.declared.changes.Change.{Change}
use Rattle.smack_rules.specs.declared.changes.PairChange.{PairChange}
use Rattle.smack_rules.specs.declared.table.PairModes.{PairModes}
use Rattle.smack_rules.specs.declared.rule.Rule.{Rule}
use Rattle.smack_rules.specs.declared.rule.Rule.TheVariants.{Set, Adjust}
use Rattle.smack_rules.specs.Modes.{no_access, all_modes, union, without}
use Rattle.smack_rules.specs.Rule.{is_pair}
use Rattle.smack_rules.specs.Effective.{effective, effective_from}
use Rattle.smack_rules.specs.parts.Order.{same_pair}

-- what a change makes of modes: it takes out those that it removes, and then adds others
abbrev pub changed : Change → Modes → Modes
changed change modes = union (without modes change.removed) change.added

-- one change for two that follow one another
abbrev pub followed_by : Change → Change → Change
followed_by first later =
    record {
      removed = union first.removed later.removed;
      added = union (without first.added later.removed) later.added;
    }

-- The change that a rule makes. To set modes is to remove all and to add these. What is allowed and denied at once is
-- out.
abbrev pub change_of : Rule → PairChange
change_of (Set subject object modes) =
    record {
      key = record { subject = subject; object = object };
      change = record { removed = all_modes; added = modes };
    }
change_of (Adjust subject object allow deny) =
    record {
      key = record { subject = subject; object = object };
      change = record { removed = deny; added = without allow deny };
    }

-- the modes of a pair, after changes of which the oldest stands first
abbrev pub modes_after : List PairChange → List ℕ → List ℕ → Modes → Modes
modes_after [] s o modes = modes
modes_after (change ∷ changes) s o modes =
    modes_after changes s o
    (if is_pair change.key.subject change.key.object s o then changed change.change modes else modes)

-- both lists of changes make the same of each pair's modes
abbrev pub ChangeAlike : List PairChange → List PairChange → Type 0
ChangeAlike some others = (s o : List ℕ) (modes : Modes) → modes_after some s o modes ≡ modes_after others s o modes

-- the changes give each pair what the rules give it
abbrev pub ChangeAs : List PairChange → List Rule → Type 0
ChangeAs changes rules = (s o : List ℕ) → modes_after changes s o no_access ≡ effective rules s o

-- the new changes are the old ones, and behind them those of rules
abbrev pub FollowsRules : List PairChange → List PairChange → List Rule → Type 0
FollowsRules old new rules =
    (s o : List ℕ) → modes_after new s o no_access ≡ effective_from (modes_after old s o no_access) rules s o

-- Neighbours that change the same pair are one change, which is under way while the later ones are looked through.
abbrev pub joined_from : PairChange → List PairChange → List PairChange
joined_from last [] = last ∷ []
joined_from last (next ∷ later) =
    if same_pair next.key last.key then joined_from (record last { change = followed_by last.change next.change }) later
    else last ∷ joined_from next later

abbrev pub joined : List PairChange → List PairChange
joined [] = []
joined (first ∷ later) = joined_from first later

-- a pair with the modes that its change makes of no access
abbrev pub pair_modes : PairChange → PairModes
pair_modes change = record { subject = change.key.subject; object = change.key.object; modes = change.change.added }

-- the change that gives a pair the modes that a table has for it
abbrev pub pair_change : PairModes → PairChange
pair_change pair =
    record {
      key = record { subject = pair.subject; object = pair.object };
      change = record { removed = all_modes; added = pair.modes };
    }
