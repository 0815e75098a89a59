use Rattle.std.proofs.Common.{◌≡◌, not, take}
use Rattle.std.specs.List.{filter}
use Rattle.app_registry.specs.Install.{is_for_user}
use Rattle.app_registry.proofs.lists.without_installs_for.Given as goal

abbrev pub invariant-loop-install : goal.invariant-loop-install
invariant-loop-install l =
    l.list.items ≡ filter (λ install. not (is_for_user l.uid install.scope)) (take l.install-index l.installs)
