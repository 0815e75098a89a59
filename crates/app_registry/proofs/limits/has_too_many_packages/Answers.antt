use Rattle.std.proofs.Common.{sym, length, arith}
use Rattle.std.proofs.lemmas.Bool.{le-ltb}
use Rattle.app_registry.specs.Registry.{packages}
use Rattle.app_registry.specs.Limits.{most_packages}
use Rattle.app_registry.proofs.Undoing.{fewer-packages}
use Rattle.app_registry.proofs.limits.has_too_many_packages.Goals as goal

pub returns-then-installs-le-PACKAGE_LIMIT : goal.returns-then-installs-le-PACKAGE_LIMIT
returns-then-installs-le-PACKAGE_LIMIT c =
    let few = fewer-packages c.args.installs.now in
    sym (le-ltb most_packages (length (packages c.args.installs.now))
    (omega (arith, few, c.if-installs-le-PACKAGE_LIMIT.true)))
