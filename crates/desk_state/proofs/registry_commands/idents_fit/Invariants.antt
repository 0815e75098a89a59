use Rattle.std.proofs.Common.{◌≡◌, None, take}
use Rattle.std.specs.List.{AllByRecursion}
use Rattle.app_registry.specs.Ident.{ident_fault}
use Rattle.app_registry.specs.declared.installs.Install.{Install}
use Rattle.desk_state.proofs.registry_commands.idents_fit.Given as goal

abbrev pub invariant-loop-install : goal.invariant-loop-install
invariant-loop-install l =
    AllByRecursion (λ (install : Install). ident_fault install.package ≡ None) (take l.install-index l.installs)
