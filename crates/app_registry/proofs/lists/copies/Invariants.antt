use Rattle.std.proofs.Common.{◌≡◌, take}
use Rattle.app_registry.proofs.lists.copies.Given as goal

abbrev pub invariant-loop-install : goal.invariant-loop-install
invariant-loop-install l = l.copies.items ≡ take l.install-index l.installs
