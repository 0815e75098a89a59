use Rattle.std.proofs.Common.{◌≡◌, [], ◌∷◌, ◌++◌, rules}
use Rattle.app_registry.specs.Registry.{of_kind}
use Rattle.app_registry.proofs.Grants.{map_more}
use Rattle.app_registry.proofs.lists.with_kind.Goals as goal

pub loop-install-preserved : goal.loop-install-preserved
loop-install-preserved c =
    let pushed : c.push.new.self.items
    ≡ c.loop-install.list.items ++ of_kind c.args.package.now c.args.hybrid c.install-item.result ∷ [] =
    search rules in
    map_more (of_kind c.args.package.now c.args.hybrid) [] c.loop-install.list.items
    c.push.new.self.items c.args.installs.now c.loop-install.install-index c.install-item.result (search rules)
    (search rules) c.loop-install.invariant pushed
