use Rattle.std.proofs.Common.{rules}
use Rattle.std.proofs.lemmas.Fn.{always_returns_same}
use Rattle.cynara_keys.specs.Key.{key_cmp}
use Rattle.cynara_keys.specs.declared.keys.Policy.{Policy}
use Rattle.cynara_keys.proofs.Order.{key_total}
use Rattle.bucket_store.proofs.Searching.{searched}
use Rattle.bucket_store.proofs.searches.place_of_key.Goals as goal

-- the closure compares a policy's key with the key
pub returns : goal.returns
returns c =
    let facts = c.binary_search_by.ensures in
    let by_key =
    facts.position (λ policy. key_cmp policy.key c.args.key.now)
    (always_returns_same _ _ _ (λ a r f called. search rules)) in
    let ends =
    searched key_total (λ (policy : Policy). policy.key) c.args.key.now c.args.policies.now c.requires
    c.binary_search_by.result facts.bound by_key in
    record { found = ends.0; absent = ends.1; in_range = facts.bound }
