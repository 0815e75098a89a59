use Rattle.std.proofs.Common.{rules}
use Rattle.std.proofs.lemmas.Fn.{always_returns_same}
use Rattle.bucket_store.specs.Order.{policy_cmp}
use Rattle.bucket_store.proofs.Sound.{policy_total}
use Rattle.app_registry.proofs.Rising.{searched}
use Rattle.set_text.proofs.layouts.place_of.Goals as goal

-- the closure compares a policy with this one
pub returns-clause-placed : goal.returns-clause-placed
returns-clause-placed c =
    let facts = c.binary_search_by.ensures in
    let by_key =
    facts.position (λ other. policy_cmp other c.args.policy.now)
    (always_returns_same _ _ _ (λ a r f called. search rules)) in
    searched policy_total c.args.policy.now c.args.policies.now c.requires c.binary_search_by.result facts.bound by_key
