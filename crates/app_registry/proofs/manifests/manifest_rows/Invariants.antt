use Rattle.std.proofs.Common.{◌≡◌, take}
use Rattle.app_registry.specs.Manifest.{grants}
use Rattle.app_registry.proofs.manifests.manifest_rows.Given as goal

abbrev pub invariant-loop-install : goal.invariant-loop-install
invariant-loop-install l = l.rows.items ≡ grants (take l.install-index l.installs)
