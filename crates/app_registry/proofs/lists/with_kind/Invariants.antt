use Rattle.std.proofs.Common.{◌≡◌, map, take}
use Rattle.app_registry.specs.Registry.{of_kind}
use Rattle.app_registry.proofs.lists.with_kind.Given as goal

abbrev pub invariant-loop-install : goal.invariant-loop-install
invariant-loop-install l = l.list.items ≡ map (of_kind l.«package» l.hybrid) (take l.install-index l.installs)
