use Rattle.std.proofs.Common.{rules}
use Rattle.std.proofs.lemmas.Fn.{always_returns_same}
use Rattle.app_registry.specs.Registry.{user_cmp}
use Rattle.app_registry.proofs.Orders.{user_total}
use Rattle.app_registry.proofs.Rising.{searched}
use Rattle.app_registry.proofs.lists.place_of_user.Goals as goal

-- the closure compares a user with this one
pub returns-clause-placed : goal.returns-clause-placed
returns-clause-placed c =
    let facts = c.binary_search_by.ensures in
    let by_number =
    facts.position (λ other. user_cmp other c.args.user) (always_returns_same _ _ _ (λ a r f called. search rules)) in
    searched user_total c.args.user c.args.users.now c.requires c.binary_search_by.result facts.bound by_number
