use Rattle.std.proofs.Common.{◌≡◌, ◌+◌, ◌≤◌, drop}
use Rattle.app_registry.specs.Registry.{grant_count}
use Rattle.app_registry.proofs.limits.has_too_many_grants.Given as goal

abbrev pub invariant-loop-install : goal.invariant-loop-install
invariant-loop-install l =
    (l.count ≤ 65536) × (l.count + grant_count (drop l.install-index l.installs) ≡ grant_count l.installs)
