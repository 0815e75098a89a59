-- What the labels of a package's processes come to, by its kind.
use Rattle.std.specs.Prelude.{ℕ, Bool, false, if◌then◌else◌, List, [], ◌∷◌, map, filter, find, unwrap_or}
use Rattle.std.specs.List.{dedup}
use Rattle.std.specs.Option.{option_map}
use Rattle.cynara_keys.specs.Text.{same_text}
use Rattle.app_registry.specs.Install.{is_of_package}
use Rattle.app_registry.specs.Label.{package_label, app_label}
use Rattle.app_registry.specs.Registry.{RegistryLists}
use Rattle.app_registry.specs.declared.installs.Install.{Install}

-- the package is hybrid, as all its installs say
abbrev pub is_hybrid : RegistryLists → List ℕ → Bool
is_hybrid registry name =
    unwrap_or (option_map (λ install. install.hybrid) (find (is_of_package name) registry.installs)) false

abbrev pub app_name : Install → List ℕ
app_name install = install.app

-- its applications, in the order of their names, each once
abbrev pub apps_of : RegistryLists → List ℕ → List (List ℕ)
apps_of registry name = dedup same_text (map app_name (filter (is_of_package name) registry.installs))

-- those of its applications where it is hybrid, and else that of the package alone
abbrev pub labels_by_kind : RegistryLists → List ℕ → List (List ℕ)
labels_by_kind registry name =
    if is_hybrid registry name then map (app_label name) (apps_of registry name) else package_label name ∷ []
