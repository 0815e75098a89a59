use Rattle.std.proofs.Common.{Bool, not, find, ap, ◌∙◌}
use Rattle.app_registry.specs.Install.{is_of_package, same_author}
use Rattle.app_registry.specs.declared.installs.Install.{Install}
use Rattle.app_registry.proofs.Packages.{find-filter}
use Rattle.app_registry.proofs.look_ups.by_another.Goals as goal

pub returns : goal.returns
returns c =
    let install = c.args.install.now in
    let by_other : Install → Bool = λ other. not (same_author other.author install.author) in
    let own : Install → Bool = is_of_package install.«package» in
    c.by_another_than.ensures ∙ ap (find by_other) c.of_package.ensures ∙ find-filter by_other own c.args.installs.now
