-- What the installs grant: the rows of the manifests, computed from the whole list of installs each time.
use Rattle.std.specs.Prelude.{ℕ, List, map, decimal}
use Rattle.std.specs.List.{flat_map}
use Rattle.cynara_keys.specs.Key.{key_cmp}
use Rattle.cynara_keys.specs.declared.fields.Field.{Field}
use Rattle.cynara_keys.specs.declared.fields.Field.TheVariants.{Any, Exact}
use Rattle.cynara_keys.specs.Key.{Key}
use Rattle.app_registry.specs.Label.{install_label}
use Rattle.app_registry.specs.Registry.{RegistryLists}
use Rattle.app_registry.specs.Rising.{rising}
use Rattle.app_registry.specs.declared.installs.Install.{Install}
use Rattle.app_registry.specs.declared.installs.Scope.{Scope}
use Rattle.app_registry.specs.declared.installs.Scope.TheVariants.{Everyone, One}

-- the users for whom an install grants: all of them, or the one by the number in decimal
abbrev pub scope_field : Scope → Field
scope_field Everyone = Any
scope_field (One uid) = Exact (decimal uid)

-- the key of one privilege
abbrev pub grant : Field → Field → List ℕ → Key
grant client user privilege = record { client = client; user = user; privilege = Exact privilege }

-- what an install grants: each of its privileges to its label
abbrev pub install_grants : Install → List Key
install_grants install = map (grant (Exact (install_label install)) (scope_field install.scope)) install.privileges

-- what all installs grant, one install after the other
abbrev pub grants : List Install → List Key
grants installs = flat_map install_grants installs

-- the set of these keys, as the list of them in the order of keys, each once
abbrev pub manifest_rows : RegistryLists → List Key
manifest_rows registry = rising key_cmp (grants registry.installs)
