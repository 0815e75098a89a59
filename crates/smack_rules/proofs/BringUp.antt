-- A `b` that rules grant never changes a decision.
use Rattle.std.proofs.Common.{◌≡◌, ℕ, Bool, true, false, ◌&&◌, not, List, refl}
use Rattle.smack_rules.specs.declared.modes.Modes.{Modes}
use Rattle.smack_rules.specs.Modes.{is_request}
use Rattle.smack_rules.specs.Decision.{decision}

second_not : (a b : Bool) → (a && not b) ≡ true → b ≡ false
second_not true true h = cc
second_not true false h = refl
second_not false b h = cc

pub is_request-bring_up : (asked : Modes) → is_request asked ≡ true → asked.bring_up ≡ false
is_request-bring_up asked h = second_not _ asked.bring_up h

pub decision-tried : (subject object : List ℕ) (asked granted : Modes) (tried : Bool) → is_request asked ≡ true
    → decision subject object asked granted ≡ decision subject object asked (record granted { bring_up = tried })
unfolding decision
decision-tried subject object asked granted tried h = rw (is_request-bring_up asked h) refl
