-- What is told of a policy that cannot stand in the script.
use Rattle.std.specs.Prelude.{◌≡◌, ℕ, List, ◌++◌, Option, Some, None, codes}
use Rattle.ctl_import.specs.declared.policies.Reason.{Reason}

-- a comment that it is left out stands behind what was there
abbrev pub TellsLeftOut : List ℕ → List ℕ → Type 0
TellsLeftOut old new = (policy : List ℕ) × (new ≡ old ++ codes "# left out: " ++ policy)

-- Where there is a reason, that is told, and the policy is none of its command.
abbrev pub IsLeftOut : Option Reason → ℕ → ℕ → List ℕ → List ℕ → Type 0
IsLeftOut None count more old new = Unit {0}
IsLeftOut (Some reason) count more old new = TellsLeftOut old new × (more ≡ count)
