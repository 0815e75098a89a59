use Rattle.std.proofs.Common.{◌≡◌, ◌+◌, take, drop}
use Rattle.app_registry.specs.Registry.{grant_count}
use Rattle.app_registry.specs.parts.Indexed.{IsIndexed}
use Rattle.app_registry.proofs.install_lists.index_of.Given as goal

abbrev pub invariant-loop-install : goal.invariant-loop-install
invariant-loop-install l =
    IsIndexed l.apps.items l.granted (take l.install-index l.installs)
    × (l.granted + grant_count (drop l.install-index l.installs) ≡ grant_count l.installs)
