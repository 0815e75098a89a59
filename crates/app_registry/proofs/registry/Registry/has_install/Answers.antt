use Rattle.std.proofs.Common.{◌≡◌, None, filter, ap, ◌∙◌, rules}
use Rattle.std.specs.List.{list_any}
use Rattle.app_registry.specs.Install.{is_install_of, is_of_package}
use Rattle.app_registry.specs.Refusal.{is_elsewhere, other_package}
use Rattle.app_registry.proofs.Counts.{or-none}
use Rattle.app_registry.proofs.Filters.{option_map-none, none_does}
use Rattle.app_registry.proofs.Packages.{list_any-among, is_elsewhere-apart}
use Rattle.app_registry.proofs.registry.Registry.has_install.Goals as goal

pub returns : goal.returns
returns c =
    let install = c.args.install.now in
    let installs = c.args.self.now.installs in
    let none : other_package installs install ≡ None = (or-none _ _ (or-none _ _ c.requires).1).0 in
    let nowhere = none_does (is_elsewhere install) installs (option_map-none _ _ none) in
    let among : list_any (is_install_of install.app install.scope) (filter (is_of_package install.«package») installs)
    ≡ list_any (is_install_of install.app install.scope) installs =
    list_any-among (is_install_of install.app install.scope) (is_of_package install.«package») (is_elsewhere install)
    (is_elsewhere-apart install) installs nowhere in
    let own : c.of_package-own.result.now ≡ filter (is_of_package install.«package») installs =
    c.of_package-own.ensures ∙ ap (filter (is_of_package install.«package»)) (search rules) in
    c.has_install.ensures ∙ ap (list_any (is_install_of install.app install.scope)) own ∙ among
