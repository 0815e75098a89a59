use Rattle.std.proofs.Common.{◌≡◌, not, take}
use Rattle.std.specs.List.{filter}
use Rattle.app_registry.specs.Install.{is_install_of}
use Rattle.app_registry.proofs.lists.without_install.Given as goal

abbrev pub invariant-loop-install : goal.invariant-loop-install
invariant-loop-install l =
    l.list.items ≡ filter (λ install. not (is_install_of l.app l.scope install)) (take l.install-index l.installs)
