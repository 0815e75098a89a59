use Rattle.std.proofs.Common.{◌≡◌, take}
use Rattle.app_registry.specs.Registry.{packages}
use Rattle.set_text.proofs.load_files.packages_of.Given as goal

-- the packages of the installs so far
abbrev pub invariant-loop-install : goal.invariant-loop-install
invariant-loop-install l = l.packages.items ≡ packages (take l.install-index l.installs)
