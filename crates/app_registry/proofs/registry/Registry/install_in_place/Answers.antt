use Rattle.std.proofs.Common.{◌≡◌, None, rules}
use Rattle.app_registry.specs.Install.{install_cmp}
use Rattle.app_registry.specs.Refusal.{installs_limit, owner_fault}
use Rattle.app_registry.specs.Rising.{placed}
use Rattle.app_registry.proofs.Changes.{IsRegistry-same, IsRegistry-with_install}
use Rattle.app_registry.proofs.registry.Registry.install_in_place.Goals as goal

pub invariant_of-self-2 : goal.invariant_of-self-2
invariant_of-self-2 c =
    let sound : owner_fault (record { users = c.self.inside.users.items; installs = c.self.inside.installs }) c.args.install.now
    ≡ None =
    search rules in
    let fits : installs_limit (placed install_cmp c.args.install.now c.self.inside.installs) ≡ None = search rules in
    IsRegistry-same (IsRegistry-with_install c.self.invariant c.args.install.now sound fits) (search rules) (search rules)
