-- The rules of all packages, gathered along the installs.
use Rattle.std.proofs.Common.{◌≡◌, ℕ, ◌+◌, ◌<◌, Bool, true, false, cond, List, [], ◌∷◌, ◌++◌, append_assoc, drop, get_or, length, map, refl, sym, ap, ◌∙◌}
use Rattle.std.specs.List.{dedup_from, flat_map}
use Rattle.std.proofs.lemmas.List.{drop_more}
use Rattle.cynara_keys.specs.Text.{same_text}
use Rattle.smack_rules.specs.declared.rule.Rule.{Rule}
use Rattle.app_registry.specs.Registry.{packages}
use Rattle.app_registry.specs.declared.installs.Install.{Install}
use Rattle.desk_state.specs.parts.Packages.{later_packages}

pub from-last : (last : List ℕ) (installs : List Install)
    → dedup_from same_text last (map (λ (install : Install). install.«package») installs) ≡ last ∷ later_packages last installs
from-last last [] = refl
from-last last (install ∷ installs) =
    at (same_text install.«package» last) (from-last last installs) (from-last install.«package» installs)
  where
    at : (b : Bool)
        → dedup_from same_text last (map (λ (other : Install). other.«package») installs) ≡ last ∷ later_packages last installs
        → dedup_from same_text install.«package» (map (λ (other : Install). other.«package») installs)
        ≡ install.«package» ∷ later_packages install.«package» installs
        → cond b (dedup_from same_text last (map (λ (other : Install). other.«package») installs))
        (last ∷ dedup_from same_text install.«package» (map (λ (other : Install). other.«package») installs))
        ≡ last ∷ cond b (later_packages last installs) (install.«package» ∷ later_packages install.«package» installs)
    at true own next = own
    at false own next = ap (λ names. last ∷ names) next

pub packages-from : (first : Install) (installs : List Install)
    → packages (first ∷ installs) ≡ first.«package» ∷ later_packages first.«package» installs
packages-from first installs = from-last first.«package» installs

-- one more install, by whether its package goes on
pub later-same : (last : List ℕ) (install : Install) (installs : List Install) → same_text install.«package» last ≡ true
    → later_packages last (install ∷ installs) ≡ later_packages last installs
later-same last install installs same =
    ap (λ b. cond b (later_packages last installs) (install.«package» ∷ later_packages install.«package» installs)) same

pub later-other : (last : List ℕ) (install : Install) (installs : List Install) → same_text install.«package» last ≡ false
    → later_packages last (install ∷ installs) ≡ install.«package» ∷ later_packages install.«package» installs
later-other last install installs apart =
    ap (λ b. cond b (later_packages last installs) (install.«package» ∷ later_packages install.«package» installs)) apart

-- ---- a turn along the installs

module _ (rules_of : List ℕ → List Rule) (whole rules : List Rule) (last : List ℕ) (installs : List Install) (i : ℕ) (install : Install)
    (within : i < length installs) (at : install ≡ get_or installs i install)
    (so_far : rules ++ flat_map rules_of (later_packages last (drop i installs)) ≡ whole) where
  next-is : drop i installs ≡ install ∷ drop (i + 1) installs
  next-is = drop_more installs i install within ∙ ap (λ other. other ∷ drop (i + 1) installs) (sym at)

  pub goes-on : same_text install.«package» last ≡ true
      → rules ++ flat_map rules_of (later_packages last (drop (i + 1) installs)) ≡ whole
  goes-on same =
      ap (λ names. rules ++ flat_map rules_of names)
      (sym (ap (later_packages last) next-is ∙ later-same last install (drop (i + 1) installs) same))
      ∙ so_far

  pub begins : same_text install.«package» last ≡ false
      → (rules ++ rules_of install.«package») ++ flat_map rules_of (later_packages install.«package» (drop (i + 1) installs)) ≡ whole
  begins apart =
      append_assoc rules (rules_of install.«package») (flat_map rules_of (later_packages install.«package» (drop (i + 1) installs)))
      ∙ ap (λ names. rules ++ flat_map rules_of names)
      (sym (ap (later_packages last) next-is ∙ later-other last install (drop (i + 1) installs) apart))
      ∙ so_far
