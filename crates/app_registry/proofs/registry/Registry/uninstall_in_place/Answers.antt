use Rattle.std.proofs.Common.{not, rules}
use Rattle.app_registry.specs.Install.{is_install_of}
use Rattle.app_registry.proofs.Changes.{IsRegistry-same, IsRegistry-without_installs}
use Rattle.app_registry.proofs.registry.Registry.uninstall_in_place.Goals as goal

pub invariant_of-self : goal.invariant_of-self
invariant_of-self c =
    IsRegistry-same
    (IsRegistry-without_installs c.self.invariant (λ install. not (is_install_of c.args.app.now c.args.scope install)))
    (search rules) (search rules)
