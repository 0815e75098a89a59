use Rattle.std.proofs.Common.{rules}
use Rattle.std.proofs.lemmas.Fn.{always_returns_same}
use Rattle.app_registry.specs.Install.{install_cmp}
use Rattle.app_registry.proofs.Orders.{install_total}
use Rattle.app_registry.proofs.Rising.{searched}
use Rattle.app_registry.proofs.lists.place_of_install.Goals as goal

-- the closure compares an install with this one
pub returns-clause-placed : goal.returns-clause-placed
returns-clause-placed c =
    let facts = c.binary_search_by.ensures in
    let by_place =
    facts.position (λ other. install_cmp other c.args.install.now)
    (always_returns_same _ _ _ (λ a r f called. search rules)) in
    searched install_total c.args.install.now c.args.installs.now c.requires c.binary_search_by.result facts.bound by_place
