use Rattle.std.proofs.Common.{◌≡◌, take}
use Rattle.std.specs.List.{AllByRecursion}
use Rattle.set_text.specs.IsSpelt.{IsInstall}
use Rattle.set_text.specs.Registry.{apps_text}
use Rattle.set_text.proofs.installs.apps_text.Given as goal

-- the lines so far
abbrev pub invariant-loop-install : goal.invariant-loop-install
invariant-loop-install l = record {
  text : l.text.items ≡ apps_text (take l.install-index l.installs);
  spelt : AllByRecursion IsInstall (take l.install-index l.installs);
}
