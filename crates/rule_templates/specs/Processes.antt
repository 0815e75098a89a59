-- The labels with which the applications of a package run.
use Rattle.std.specs.Prelude.{ℕ, List, filter, map}
use Rattle.std.specs.List.{dedup}
use Rattle.cynara_keys.specs.Text.{same_text}
use Rattle.app_registry.specs.Install.{is_of_package}
use Rattle.app_registry.specs.Label.{install_label}
use Rattle.app_registry.specs.Registry.{RegistryLists}
use Rattle.app_registry.specs.declared.installs.Install.{Install}

-- the labels of installs, each once where they stand together
abbrev pub distinct_labels : List Install → List (List ℕ)
distinct_labels installs = dedup same_text (map install_label installs)

-- The labels of the installs of a package: in a hybrid one the label of each application, in the order of their names,
-- and in a plain one the label of the package alone.
abbrev pub process_labels : RegistryLists → List ℕ → List (List ℕ)
process_labels registry name = distinct_labels (filter (is_of_package name) registry.installs)
