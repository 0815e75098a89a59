-- Whether an install may stand behind those before it, found without a look at each of them.
use Rattle.std.specs.Prelude.{◌≡◌, ℕ, Bool, false, true, not, ◌||◌, if◌then◌else◌}
use Rattle.std.specs.Prelude.{List, [], ◌∷◌, length, Option, Some, None, find}
use Rattle.std.specs.BTreeMap.{BTreeMap, get}
use Rattle.std.specs.Option.{option_map, option_or}
use Rattle.cynara_keys.specs.Text.{same_text, text_cmp}
use Rattle.cynara_keys.specs.declared.limits.Counted.TheVariants.{Packages, Installs, Grants}
use Rattle.app_registry.specs.Install.{is_of_app, same_author, same_kind}
use Rattle.app_registry.specs.Refusal.{over}
use Rattle.app_registry.specs.Registry.{packages, grant_count}
use Rattle.app_registry.specs.declared.idents.Ident.{Ident}
use Rattle.app_registry.specs.declared.installs.Install.{Install}
use Rattle.app_registry.specs.declared.refusals.RegistryRefusal.{RegistryRefusal}
use Rattle.app_registry.specs.Limits.{most_packages, most_installs, most_grants}
use Rattle.set_text.specs.Lines.{last_of}
use Rattle.set_text.specs.declared.registries.Counts.{Counts}

-- ---- the packages of applications

-- the package of an application, where it is installed
abbrev pub package_with : List Install → List ℕ → Option (List ℕ)
package_with installs app = option_map (λ install. install.package) (find (is_of_app app) installs)

-- the map has the package of each application
abbrev pub HasPackages : BTreeMap Ident Ident → List Install → Type 0
HasPackages map installs = (app : List ℕ) → get text_cmp map app ≡ package_with installs app

-- a package is there, and is another one
abbrev pub is_other_than : List ℕ → Option (List ℕ) → Bool
is_other_than name None = false
is_other_than name (Some «package») = not (same_text «package» name)

-- what a map has at an application once an install is noted that was not there
abbrev pub noted : Install → List ℕ → Option (List ℕ) → Option (List ℕ)
noted install app found = option_or found (if is_of_app app install then Some install.package else None)

-- ---- authors

-- the last install is of another package, or has the same author
abbrev pub author_fits : Option Install → Install → Bool
author_fits None install = true
author_fits (Some last) install = not (same_text last.package install.package) || same_author last.author install.author

-- the last install is of another package, or of the same kind
abbrev pub kind_fits : Option Install → Install → Bool
kind_fits None install = true
kind_fits (Some last) install = not (same_text last.package install.package) || same_kind last.hybrid install.hybrid

-- ---- counts

abbrev pub counts_of : List Install → Counts
counts_of installs = record { packages = length (packages installs); grants = grant_count installs }

-- how many packages an install adds behind the last one
abbrev pub new_package : Option Install → Install → ℕ
new_package None install = 1
new_package (Some last) install = if same_text last.package install.package then 0 else 1

-- more packages, installs or privileges than there may be
abbrev pub counts_limit : Counts → ℕ → Option RegistryRefusal
counts_limit counts installs =
    option_or (over Packages most_packages counts.packages)
    (option_or (over Installs most_installs installs) (over Grants most_grants counts.grants))

-- the last name is this one
abbrev pub ends_with : Option (List ℕ) → List ℕ → Bool
ends_with None name = false
ends_with (Some last) name = same_text last name

-- what is put behind names: the name, where it is not the last of them
abbrev pub tail_of : List (List ℕ) → List ℕ → List (List ℕ)
tail_of names name = if ends_with (last_of names) name then [] else name ∷ []
