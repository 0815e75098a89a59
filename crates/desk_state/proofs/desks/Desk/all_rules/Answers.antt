use Rattle.std.proofs.Common.{◌≡◌, ◌∷◌, ◌++◌, sym, ap, ◌∙◌}
use Rattle.std.specs.List.{flat_map}
use Rattle.app_registry.specs.Registry.{RegistryLists, packages}
use Rattle.desk_state.specs.DeskState.{package_rules}
use Rattle.desk_state.specs.parts.Packages.{later_packages}
use Rattle.desk_state.proofs.Expanding.{packages-from}
use Rattle.desk_state.proofs.desks.Desk.all_rules.Goals as goal

pub returns : goal.returns
returns c =
    let rules_of = package_rules c.args.self.now in
    let first = c.in-Some.first.now in
    let rest = c.in-Some.rest.now in
    let installs : c.args.self.now.registry.installs ≡ first ∷ rest =
    sym (c.installs.ensures.installs ∙ ap (λ (lists : RegistryLists). lists.installs) c.registry.ensures.registry) ∙ c.in-Some.ensures.cases.0 in
    c.in_ok-append_later_rules.ensures
    ∙ ap (λ rules. rules ++ flat_map rules_of (later_packages first.package rest))
    (c.in_ok-append_rules.ensures ∙ ap (λ rules. rules ++ rules_of first.package) c.new-rules.ensures.items)
    ∙ ap (flat_map rules_of) (sym (packages-from first rest))
    ∙ ap (λ list. flat_map rules_of (packages list)) (sym installs)
