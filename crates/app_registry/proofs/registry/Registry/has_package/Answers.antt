use Rattle.std.proofs.Common.{◌≡◌, is_some, rules, ap, ◌∙◌}
use Rattle.std.specs.List.{list_any}
use Rattle.app_registry.specs.Install.{is_of_package}
use Rattle.app_registry.proofs.Filters.{is_some-copied, is_some-find}
use Rattle.app_registry.proofs.registry.Registry.has_package.Goals as goal

pub returns : goal.returns
returns c =
    let found : is_some c.first_of_package.result ≡ list_any (is_of_package c.args.package.now) c.as_slice.result.now =
    is_some-copied c.first_of_package.result ∙ ap is_some c.first_of_package.ensures
    ∙ is_some-find (is_of_package c.args.package.now) c.as_slice.result.now in
    let same : c.as_slice.result.now ≡ c.args.self.now.installs = search rules in
    c.is_some.ensures ∙ found ∙ ap (list_any (is_of_package c.args.package.now)) same
