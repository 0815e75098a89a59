use Rattle.std.proofs.Common.{◌≡◌, ◌-◌, ◌≤◌, ◌++◌, sym, subst, List, length, take, drop, arith}
use Rattle.std.specs.List.{filter}
use Rattle.std.specs.List.Sorted.{IsStrictlySortedBy}
use Rattle.std.specs.Ordering.{is_lt, is_gt}
use Rattle.std.proofs.lemmas.List.{take_all, length-drop}
use Rattle.cynara_keys.specs.Key.{key_cmp}
use Rattle.cynara_keys.specs.declared.keys.Policy.{Policy}
use Rattle.bucket_store.specs.Order.{policy_cmp}
use Rattle.bucket_store.specs.parts.Batch.{key_of, effect}
use Rattle.bucket_store.proofs.Merging.{done-rises, rest-rises, merging-turn}
use Rattle.bucket_store.proofs.merges.merged.Goals as goal

pub merge_one-requires-clause-done : goal.merge_one-requires-clause-done
merge_one-requires-clause-done c = done-rises c.loop-change.invariant

pub merge_one-requires-clause-rest : goal.merge_one-requires-clause-rest
merge_one-requires-clause-rest c =
    let policies = c.args.policies.now in
    let from = c.loop-change.from in
    let long = length-drop from policies in
    let whole : take (length policies - from) (drop from policies) ≡ drop from policies =
    take_all (length policies - from) (drop from policies) (omega (arith, long)) in
    subst (IsStrictlySortedBy policy_cmp) (sym whole) (rest-rises c.loop-change.invariant)

pub loop-change-preserved : goal.loop-change-preserved
loop-change-preserved c =
    let policies = c.args.policies.now in
    let changes = c.args.changes.now in
    let from = c.loop-change.from in
    let change = c.change-item.result in
    let long = length-drop from policies in
    let whole : take (length policies - from) (drop from policies) ≡ drop from policies =
    take_all (length policies - from) (drop from policies) (omega (arith, long)) in
    let facts = c.in_ok-from.ensures in
    let taken = c.in_ok-from.field-0 in
    let done = c.loop-change.copy.items in
    let next = c.merge_one.new.copy.items in
    merging-turn policies changes done from c.loop-change.change-index c.loop-change.invariant c.loop-change-test.true
    change
    c.change-item.is next taken
    (subst (λ (list : List Policy). taken ≤ length list) whole facts.taken)
    (subst (λ (list : List Policy). next
    ≡ filter (λ (policy : Policy). is_lt (key_cmp policy.key (key_of change))) done
    ++ (filter (λ (policy : Policy). is_lt (key_cmp policy.key (key_of change))) list ++ effect change))
    whole facts.copy)
    (subst (λ (list : List Policy). drop taken list ≡ filter
    (λ (policy : Policy). is_gt (key_cmp policy.key (key_of change))) list) whole facts.left)
