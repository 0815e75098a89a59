-- What is kept beside the installs of a registry.
use Rattle.std.specs.Prelude.{◌≡◌, ◌≤◌, ℕ, Bool, true, List}
use Rattle.std.specs.List.{AllByRecursion, list_any}
use Rattle.std.specs.List.Sorted.{IsStrictlySortedBy}
use Rattle.std.specs.Ordering.{eq_by_cmp}
use Rattle.cynara_keys.specs.Text.{text_cmp}
use Rattle.app_registry.specs.Registry.{grant_count}
use Rattle.app_registry.specs.declared.installs.Install.{Install}
use Rattle.app_registry.specs.Limits.{most_grants}

-- whether the application is one of these
abbrev pub is_among : List ℕ → List (List ℕ) → Bool
is_among app apps = list_any (eq_by_cmp text_cmp app) apps

-- the application of each install is one of these, and the installs grant so many privileges
pub record IsIndexed (apps : List (List ℕ)) (granted : ℕ) (installs : List Install) : Type 0 where
  pub rise : IsStrictlySortedBy text_cmp apps
  pub known : AllByRecursion (λ install. is_among install.app apps ≡ true) installs
  pub count : granted ≡ grant_count installs
  pub few : granted ≤ most_grants
