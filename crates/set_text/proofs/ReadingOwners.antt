-- What stands against an install, by the map of packages and the last install before.
use Rattle.std.proofs.Common.{◌≡◌, not, ◌&&◌, List, true, is_none, ap, sym, ◌∙◌}
use Rattle.std.specs.BTreeMap.{BTreeMap, get}
use Rattle.std.specs.Option.{option_or}
use Rattle.cynara_keys.specs.Text.{text_cmp}
use Rattle.app_registry.specs.Install.{install_cmp}
use Rattle.app_registry.specs.Refusal.{unknown_scope, other_package, other_author, other_kind, owner_fault}
use Rattle.app_registry.specs.Rules.{IsRegistry}
use Rattle.app_registry.specs.declared.idents.Ident.{Ident}
use Rattle.app_registry.specs.declared.installs.Install.{Install}
use Rattle.app_registry.specs.declared.users.User.{User}
use Rattle.set_text.specs.Lines.{last_of, rises_above}
use Rattle.set_text.specs.parts.Standing.{HasPackages, is_other_than, author_fits, kind_fits}
use Rattle.set_text.proofs.ReadingAuthors.{other_author-last}
use Rattle.set_text.proofs.ReadingInstalls.{is_none-or, other_package-first}
use Rattle.set_text.proofs.ReadingKinds.{other_kind-last}

pub owner-parts : (users : List User) (map : BTreeMap Ident Ident) (before : List Install) (install : Install)
    → IsRegistry users before → HasPackages map before → rises_above install_cmp before install ≡ true
    → is_none (owner_fault (record { users = users; installs = before }) install)
    ≡ (is_none (unknown_scope users install.scope)
    && (not (is_other_than install.«package» (get text_cmp map install.app))
    && (author_fits (last_of before) install && kind_fits (last_of before) install)))
owner-parts users map before install registry noted above =
    is_none-or (unknown_scope users install.scope) _
    ∙ ap (λ b. is_none (unknown_scope users install.scope) && b)
    (is_none-or (other_package before install) (option_or (other_author before install) (other_kind before install))
    ∙ ap (λ b. b && is_none (option_or (other_author before install) (other_kind before install)))
    (other_package-first users install before registry
    ∙ sym (ap (λ found. not (is_other_than install.«package» found)) (noted install.app)))
    ∙ ap (λ b. not (is_other_than install.«package» (get text_cmp map install.app)) && b)
    (is_none-or (other_author before install) (other_kind before install)
    ∙ (λ i. other_author-last users before install registry above i && other_kind-last users before install registry above i)))
