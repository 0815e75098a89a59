-- The Smack labels of packages and of their applications. That an application of a plain package runs with the label of
-- its package, and one of a hybrid package with a label of its own, is security-manager's.
use Rattle.std.specs.Prelude.{ℕ, List, ◌++◌, codes, if◌then◌else◌, Option, option_map, find}
use Rattle.app_registry.specs.Install.{is_of_app}
use Rattle.app_registry.specs.Registry.{RegistryLists}
use Rattle.app_registry.specs.declared.installs.Install.{Install}

-- the label of all that belongs to the package of this name
abbrev pub package_label : List ℕ → List ℕ
package_label name = codes "User::Pkg::" ++ name

-- the label of an application's own, in the package of this name
abbrev pub app_label : List ℕ → List ℕ → List ℕ
app_label name app = package_label name ++ (codes "::App::" ++ app)

-- the label of an install: in a hybrid package one of the application's own, else that of the package
abbrev pub install_label : Install → List ℕ
install_label install = if install.hybrid then app_label install.package install.app else package_label install.package

-- the label of an application, where it is installed
abbrev pub label_of : RegistryLists → List ℕ → Option (List ℕ)
label_of registry app = option_map install_label (find (is_of_app app) registry.installs)
