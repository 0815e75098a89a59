use Rattle.std.proofs.Common.{◌≡◌, ◌++◌, map, OnOk, subst}
use Rattle.cynara_keys.specs.declared.fields.Field.TheVariants.{Exact}
use Rattle.app_registry.specs.Label.{install_label}
use Rattle.app_registry.specs.Manifest.{grant, install_grants, scope_field}
use Rattle.desk_state.specs.parts.Following as following
use Rattle.desk_state.proofs.following.change_install.Goals as goal

pub returns : goal.returns
returns c =
    let label : c.in_ok-install_client.field-0 ≡ install_label c.args.install.now = c.in_ok-install_client.ensures in
    let user : c.in_ok-user.user ≡ scope_field c.args.install.now.scope = c.in_ok-user.ensures in
    let same : map (grant (Exact c.in_ok-install_client.field-0) c.in_ok-user.user) c.as_slice.result.now
    ≡ install_grants c.args.install.now =
    λ i. map (grant (Exact (label i)) (user i)) (c.as_slice.ensures.names i) in
    subst (λ granted. OnOk c.change_each.result
    (c.change_each.new.changes.items ≡ c.args.changes.now.items ++ map (following.grant_change c.args.allowed) granted))
    same c.change_each.ensures
