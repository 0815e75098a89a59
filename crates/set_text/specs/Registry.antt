-- The file `users`, which has a line for each user, and the file `apps`, which has a line for each install.
use Rattle.std.specs.Prelude.{ℕ, Bool, true, false, ◌==◌, ◌&&◌, nat_lt, if◌then◌else◌, List, [], ◌∷◌}
use Rattle.std.specs.Prelude.{◌++◌, length, codes, decimal, find, Option, Some, None, is_none, Result}
use Rattle.std.specs.Option.{option_map}
use Rattle.std.specs.List.{list_all}
use Rattle.std.specs.Ordering.{is_lt}
use Rattle.cynara_keys.specs.Text.{same_text, text_cmp}
use Rattle.cynara_keys.specs.Name.{is_name}
use Rattle.cynara_keys.specs.Field.{wildcard}
use Rattle.app_registry.specs.Ident.{ident_fault}
use Rattle.app_registry.specs.Install.{install_cmp}
use Rattle.app_registry.specs.Refusal.{owner_fault, installs_limit}
use Rattle.app_registry.specs.Registry.{user_cmp}
use Rattle.app_registry.specs.declared.installs.Install.{Install}
use Rattle.app_registry.specs.declared.installs.Scope.{Scope}
use Rattle.app_registry.specs.declared.installs.Scope.TheVariants.{Everyone, One}
use Rattle.app_registry.specs.Limits.{most_users}
use Rattle.app_registry.specs.declared.users.User.{User}
use Rattle.app_registry.specs.declared.users.UserType.{UserType}
use Rattle.app_registry.specs.declared.users.UserType.TheVariants.{System, Admin, Normal, Guest}
use Rattle.set_text.specs.Numbers.{decimal_of}
use Rattle.set_text.specs.Lines.{text_of, joined, fields_of, values_of, kept, rises_above}

-- the greatest number of a user
abbrev pub last_uid : ℕ
last_uid = 4294967295

-- ---- the spelling

abbrev pub type_word : UserType → List ℕ
type_word System = codes "system"
type_word Admin = codes "admin"
type_word Normal = codes "normal"
type_word Guest = codes "guest"

abbrev pub user_line : User → List ℕ
user_line user = joined (decimal user.uid ∷ type_word user.kind ∷ [])

abbrev pub users_text : List User → List ℕ
users_text users = text_of user_line users

-- no author is an empty text
abbrev pub author_text : Option (List ℕ) → List ℕ
author_text None = []
author_text (Some author) = author

-- the name of a package, with `+` before it where the package is hybrid
abbrev pub package_text : Bool → List ℕ → List ℕ
package_text true name = 43 ∷ name
package_text false name = name

abbrev pub scope_text : Scope → List ℕ
scope_text Everyone = wildcard
scope_text (One uid) = decimal uid

abbrev pub install_line : Install → List ℕ
install_line install =
    joined (package_text install.hybrid install.package ∷ author_text install.author ∷ install.app
    ∷ scope_text install.scope ∷ install.privileges)

abbrev pub apps_text : List Install → List ℕ
apps_text installs = text_of install_line installs

-- ---- the form of a line

abbrev pub types : List UserType
types = System ∷ Admin ∷ Normal ∷ Guest ∷ []

abbrev pub type_of : List ℕ → Option UserType
type_of word = find (λ kind. same_text (type_word kind) word) types

abbrev pub user_with : Option ℕ → Option UserType → Option User
user_with (Some uid) (Some kind) = Some (record { uid = uid; kind = kind })
user_with (Some uid) None = None
user_with None kind = None

abbrev pub user_of_fields : List (List ℕ) → Option User
user_of_fields (uid ∷ kind ∷ []) = user_with (decimal_of last_uid uid) (type_of kind)
user_of_fields _ = None

abbrev pub user_of : List ℕ → Option User
user_of line = user_of_fields (fields_of line)

abbrev pub is_ident : List ℕ → Bool
is_ident text = is_none (ident_fault text)

abbrev pub is_author : List ℕ → Bool
is_author [] = true
is_author (byte ∷ bytes) = is_ident (byte ∷ bytes)

abbrev pub author_of : List ℕ → Option (List ℕ)
author_of [] = None
author_of (byte ∷ bytes) = Some (byte ∷ bytes)

-- `+` stands in front: the package is hybrid
abbrev pub is_marked : List ℕ → Bool
is_marked [] = false
is_marked (byte ∷ bytes) = byte == 43

-- the name of a package, in its text
abbrev pub name_in : List ℕ → List ℕ
name_in [] = []
name_in (byte ∷ bytes) = if byte == 43 then bytes else byte ∷ bytes

-- `*`, or the number of a user
abbrev pub scope_of : List ℕ → Option Scope
scope_of text = if same_text text wildcard then Some Everyone
    else option_map (λ uid. One uid) (decimal_of last_uid text)

-- each before the next
abbrev pub are_rising : List (List ℕ) → Bool
are_rising [] = true
are_rising (name ∷ []) = true
are_rising (name ∷ next ∷ names) = is_lt (text_cmp name next) && are_rising (next ∷ names)

abbrev pub are_privileges : List (List ℕ) → Bool
are_privileges names = list_all is_name names && are_rising names

abbrev pub install_of_fields : List (List ℕ) → Option Install
install_of_fields («package» ∷ author ∷ app ∷ scope ∷ privileges) =
    if is_ident (name_in «package») && (is_author author && (is_ident app && are_privileges privileges))
    then option_map (λ scope. record {
      «package» = name_in «package»;
      author = author_of author;
      app = app;
      scope = scope;
      privileges = privileges;
      hybrid = is_marked «package»;
    }) (scope_of scope)
    else None
install_of_fields _ = None

abbrev pub install_of : List ℕ → Option Install
install_of line = install_of_fields (fields_of line)

-- ---- the rules of a line

-- The numbers rise, and there are no more users than there may be.
abbrev pub user_fits : List User → User → Bool
user_fits before user = rises_above user_cmp before user && nat_lt (length before) most_users

abbrev pub read_user : List User → List ℕ → Option User
read_user before line = kept (user_fits before) (user_of line)

abbrev pub users_of : List ℕ → Result (List User) ℕ
users_of text = values_of read_user text

-- The installs rise. The user of the scope is there; with the installs before, no application is in two packages, no
-- package has two authors or is both hybrid and plain, and nothing is more than it may be.
abbrev pub install_fits : List User → List Install → Install → Bool
install_fits users before install =
    rises_above install_cmp before install
    && (is_none (owner_fault (record { users = users; installs = before }) install)
    && is_none (installs_limit (before ++ install ∷ [])))

abbrev pub read_install : List User → List Install → List ℕ → Option Install
read_install users before line = kept (install_fits users before) (install_of line)

-- the installs in a text, of a device with these users
abbrev pub installs_of : List User → List ℕ → Result (List Install) ℕ
installs_of users text = values_of (read_install users) text
