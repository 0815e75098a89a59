-- The access decision, from "Access Rules" in the Linux kernel's Documentation/admin-guide/LSM/Smack.
use Rattle.std.specs.Prelude.{ℕ, ◌+◌, ◌==◌, Bool, true, false, ◌&&◌, ◌||◌, List, [], ◌∷◌, if◌then◌else◌}
use Rattle.std.specs.Str.{bytes_eq}
use Rattle.smack_rules.specs.declared.modes.Modes.{Modes}
use Rattle.smack_rules.specs.declared.decision.Decision.{Decision}
use Rattle.smack_rules.specs.Modes.{letters_that, is_within}

-- the label `*`
abbrev pub is_star : List ℕ → Bool
is_star label = bytes_eq label (42 ∷ [])

-- the label `^`
abbrev pub is_hat : List ℕ → Bool
is_hat label = bytes_eq label (94 ∷ [])

-- the label `_`
abbrev pub is_floor : List ℕ → Bool
is_floor label = bytes_eq label (95 ∷ [])

-- the set of `r` and `x`
abbrev pub read_and_execute : Modes
read_and_execute = letters_that (λ letter. letter == 114 || letter == 120)

-- the set of `l` alone
abbrev pub lock_alone : Modes
lock_alone = letters_that (λ letter. letter == 108)

-- Read or execute access, or (this project's profile) `l` alone: what is asked isn't empty, so within `l` it is `l`.
abbrev pub is_reading : Modes → Bool
is_reading asked = is_within asked read_and_execute || is_within asked lock_alone

-- What a rule grants: its modes, and with `w` also `l` (this project's profile).
abbrev pub with_lock : Modes → Modes
with_lock modes = record modes { lock = modes.lock || modes.write }

-- a case of the table: whether it holds, and whether it allows
pub record Case : Type 0 where
  pub holds : Bool
  pub allows : Bool

-- The seven cases in their order, in the words of the kernel's document. That a rule may be for two equal
-- labels is this project's profile; case 5 decides before it.
abbrev pub cases : List ℕ → List ℕ → Modes → Modes → List Case
cases subject object asked granted =
    -- 1. any access requested by a task labeled "*" is denied
    record { holds = is_star subject; allows = false }
    -- 2. a read or execute access requested by a task labeled "^" is permitted
    ∷ record { holds = is_hat subject && is_reading asked; allows = true }
    -- 3. a read or execute access requested on an object labeled "_" is permitted
    ∷ record { holds = is_floor object && is_reading asked; allows = true }
    -- 4. any access requested on an object labeled "*" is permitted
    ∷ record { holds = is_star object; allows = true }
    -- 5. any access requested by a task on an object with the same label is permitted
    ∷ record { holds = bytes_eq subject object; allows = true }
    -- 6. any access requested that is explicitly defined in the loaded rule set is permitted
    ∷ record { holds = is_within asked (with_lock granted); allows = true }
    -- 7. any other access is denied
    ∷ record { holds = true; allows = false }
    ∷ []

-- the first case that holds, where the cases are numbered from a number on
abbrev pub first_case : ℕ → List Case → Decision
first_case number [] = record { allowed = false; rule = number }
first_case number (case ∷ others) =
    if case.holds then record { allowed = case.allows; rule = number } else first_case (number + 1) others

-- the decision on a request, where the rules grant the pair these modes
unfoldable pub decision : List ℕ → List ℕ → Modes → Modes → Decision
decision subject object asked granted = first_case 1 (cases subject object asked granted)
