use Rattle.std.proofs.Common.{◌≡◌, [], ◌∷◌, ◌++◌, rules}
use Rattle.app_registry.specs.Manifest.{grant}
use Rattle.app_registry.proofs.Grants.{map_more}
use Rattle.app_registry.proofs.manifests.push_each.Goals as goal

pub loop-privilege-preserved : goal.loop-privilege-preserved
loop-privilege-preserved c =
    let pushed : c.push.new.self.items
    ≡ c.loop-privilege.rows.items ++ grant c.args.client.now c.args.user.now c.privilege-item.result ∷ [] =
    search rules in
    map_more (grant c.args.client.now c.args.user.now) c.args.rows.now.items c.loop-privilege.rows.items
    c.push.new.self.items c.args.privileges.now c.loop-privilege.privilege-index c.privilege-item.result (search rules)
    (search rules) c.loop-privilege.invariant pushed
