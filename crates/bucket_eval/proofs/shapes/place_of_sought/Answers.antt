use Rattle.std.proofs.Common.{rules}
use Rattle.std.proofs.lemmas.Fn.{always_returns_same}
use Rattle.cynara_keys.specs.Key.{key_cmp}
use Rattle.cynara_keys.specs.declared.keys.Policy.{Policy}
use Rattle.cynara_keys.proofs.Order.{key_total}
use Rattle.bucket_store.proofs.Searching.{searched}
use Rattle.bucket_eval.specs.parts.Shapes.{sought}
use Rattle.bucket_eval.proofs.shapes.place_of_sought.Goals as goal

-- the closure compares a policy's key with the one that is sought
pub returns : goal.returns
returns c =
    let key = sought c.args.question.now c.args.shape in
    let facts = c.binary_search_by.ensures in
    let by_key =
    facts.position (λ policy. key_cmp policy.key key) (always_returns_same _ _ _ (λ a r f called. search rules)) in
    let ends =
    searched key_total (λ (policy : Policy). policy.key) key c.args.policies.now c.requires c.binary_search_by.result
    facts.bound by_key in
    record { found = ends.0; absent = ends.1; in_range = facts.bound }
