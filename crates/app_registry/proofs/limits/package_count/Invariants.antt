use Rattle.std.proofs.Common.{◌≡◌, ◌+◌, ◌≤◌, drop, length, map}
use Rattle.std.specs.List.{dedup_from}
use Rattle.cynara_keys.specs.Text.{same_text}
use Rattle.app_registry.specs.Registry.{packages}
use Rattle.app_registry.specs.declared.installs.Install.{Install}
use Rattle.app_registry.proofs.limits.package_count.Given as goal

abbrev pub invariant-loop-install : goal.invariant-loop-install
invariant-loop-install l =
    (l.count ≤ l.install-index + 1)
    × (l.count + length (dedup_from same_text l.last (map (λ (install : Install). install.«package») (drop l.install-index l.rest)))
    ≡ length (packages l.fn.installs) + 1)
