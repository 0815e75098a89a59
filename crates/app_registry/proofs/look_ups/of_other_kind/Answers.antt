use Rattle.std.proofs.Common.{Bool, not, find, ap, ◌∙◌}
use Rattle.app_registry.specs.Install.{is_of_package, same_kind}
use Rattle.app_registry.specs.declared.installs.Install.{Install}
use Rattle.app_registry.proofs.Packages.{find-filter}
use Rattle.app_registry.proofs.look_ups.of_other_kind.Goals as goal

pub returns : goal.returns
returns c =
    let install = c.args.install.now in
    let other_kind : Install → Bool = λ other. not (same_kind other.hybrid install.hybrid) in
    let own : Install → Bool = is_of_package install.«package» in
    c.of_other_kind_than.ensures ∙ ap (find other_kind) c.of_package.ensures ∙ find-filter other_kind own c.args.installs.now
