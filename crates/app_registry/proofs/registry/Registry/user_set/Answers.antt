use Rattle.std.proofs.Common.{◌≡◌, None, rules, length}
use Rattle.cynara_keys.specs.declared.limits.Counted.TheVariants.{Users}
use Rattle.app_registry.specs.Refusal.{over}
use Rattle.app_registry.specs.Registry.{user_cmp}
use Rattle.app_registry.specs.Rising.{placed}
use Rattle.app_registry.specs.Limits.{most_users}
use Rattle.app_registry.specs.declared.users.User.{User}
use Rattle.app_registry.proofs.Changes.{IsRegistry-same, IsRegistry-with_user}
use Rattle.app_registry.proofs.registry.Registry.user_set.Goals as goal

pub invariant_of-result : goal.invariant_of-result
invariant_of-result c =
    let user : User = record { uid = c.args.uid; kind = c.args.kind } in
    let fits : over Users most_users (length (placed user_cmp user c.self.inside.users.items)) ≡ None = search rules in
    IsRegistry-same (IsRegistry-with_user c.self.invariant user fits) (search rules) (search rules)
