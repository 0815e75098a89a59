-- The modes that a list of rules gives a pair of labels, from the Linux kernel's Documentation/admin-guide/LSM/Smack.
use Rattle.std.specs.Prelude.{ℕ, List, [], ◌∷◌, reverse, if◌then◌else◌}
use Rattle.smack_rules.specs.declared.modes.Modes.{Modes}
use Rattle.smack_rules.specs.declared.rule.Rule.{Rule}
use Rattle.smack_rules.specs.declared.rule.Rule.TheVariants.{Set, Adjust}
use Rattle.smack_rules.specs.Modes.{no_access, union, without}
use Rattle.smack_rules.specs.Rule.{is_pair}

-- Here s and o are the subject and the object that are asked about.
-- Rules that stand newest first, looked through from the newest back to the last `Set` of the pair. Its modes
-- are what the `Adjust`s after it start from: each adds what it allows, and then takes out what it denies.
abbrev pub looking_back : Modes → List ℕ → List ℕ → List Rule → Modes
looking_back start s o [] = start
looking_back start s o (Set subject object modes ∷ earlier) =
    if is_pair subject object s o then modes else looking_back start s o earlier
looking_back start s o (Adjust subject object allow deny ∷ earlier) =
    if is_pair subject object s o then without (union (looking_back start s o earlier) allow) deny
    else looking_back start s o earlier

-- the modes of a pair under rules, oldest first, that change what it started with
abbrev pub effective_from : Modes → List Rule → List ℕ → List ℕ → Modes
effective_from start rules s o = looking_back start s o (reverse rules)

-- the modes of a pair under rules: no access before the first
abbrev pub effective : List Rule → List ℕ → List ℕ → Modes
effective rules s o = effective_from no_access rules s o
