-- The last fields of a line of `apps`: for whom the application is installed, and the privileges.
use Rattle.std.specs.Prelude.{ℕ, Bool, ◌&&◌, if◌then◌else◌, List, [], ◌∷◌, Option, Some, None}
use Rattle.std.specs.Option.{option_map}
use Rattle.cynara_keys.specs.Name.{is_name}
use Rattle.cynara_keys.specs.Text.{text_cmp}
use Rattle.app_registry.specs.declared.installs.Scope.{Scope}
use Rattle.set_text.specs.declared.installs.Rights.{Rights}
use Rattle.set_text.specs.Lines.{rises_above}
use Rattle.set_text.specs.Registry.{are_privileges, scope_of}

-- a privilege may stand behind these
abbrev pub privilege_fits : List (List ℕ) → List ℕ → Bool
privilege_fits before name = is_name name && rises_above text_cmp before name

-- these fields, where they are privileges
abbrev pub privileges_of : List (List ℕ) → Option (List (List ℕ))
privileges_of names = if are_privileges names then Some names else None

abbrev pub rights_with : List (List ℕ) → Option Scope → Option Rights
rights_with names scope = option_map (λ scope. record { scope = scope; privileges = names }) scope

-- the scope, and the privileges behind it
abbrev pub rights_of : List (List ℕ) → Option Rights
rights_of [] = None
rights_of (scope ∷ names) = if are_privileges names then rights_with names (scope_of scope) else None
