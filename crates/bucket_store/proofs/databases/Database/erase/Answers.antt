use Rattle.std.proofs.Common.{◌≡◌, ◌∙◌, ap, sym, subst, refl, List, [], true, false, length, not, arith}
use Rattle.std.specs.List.{filter}
use Rattle.cynara_keys.specs.Text.{text_cmp}
use Rattle.cynara_keys.specs.Key.{filter_admits}
use Rattle.cynara_keys.specs.declared.keys.Policy.{Policy}
use Rattle.bucket_store.specs.Bucket.{Bucket}
use Rattle.bucket_store.specs.Database.{Database, database_of, has_bucket}
use Rattle.bucket_store.specs.Change.{erased, is_admitted}
use Rattle.bucket_store.specs.WellFormed.{IsSound}
use Rattle.bucket_store.specs.parts.Search.{StandsAt}
use Rattle.bucket_store.specs.parts.Edit.{filled}
use Rattle.bucket_store.proofs.Lists.{length-filter-≤}
use Rattle.bucket_store.proofs.Kept.{Sound-kept}
use Rattle.bucket_store.proofs.Sound.{refuses-absent, has-found, has-absent, fault-found}
use Rattle.bucket_store.proofs.Removing.{erased-view, Kept-erased, count-erased}
use Rattle.bucket_store.proofs.databases.Database.erase.Goals as goal
use Rattle.bucket_store.proofs.databases.Database.erase.Goals.{In-Ok, In-Ok-not_admitted, In-Ok-with_policies}

pub returns-in_default-clause-refused : goal.returns-in_default-clause-refused
returns-in_default-clause-refused c =
    let absent = rw c.in_default.is at c.place_of_bucket.ensures.absent in
    let name = c.args.name.now in
    let gone : has_bucket name c.args.self.now ≡ false =
    subst (λ (database : Database). has_bucket name database ≡ false) c.self.view_is
    (subst (λ (list : List Bucket). has_bucket name (database_of list) ≡ false) c.deref.ensures.value
    (has-absent name c.deref.result.now c.in_default.field-0 absent)) in
    refuses-absent name [] c.args.self.now (erased name c.args.filter.now c.args.self.now) refl gone c.no_bucket.result
    c.no_bucket.ensures

-- what is left is no longer than what there was
pub overflow_sub-count : goal.overflow_sub-count
overflow_sub-count c =
    let left = ap length c.in-Ok-not_admitted.ensures in
    let short = length-filter-≤ (λ (policy : Policy). not (filter_admits c.args.filter.now policy.key))
    c.policies.result.now in
    let same = ap length (c.policies.ensures ∙ sym c.policies-2.ensures) in
    omega (arith, left, short, same, c.len.ensures)

-- ---- what is known where the bucket is

stands : (c : In-Ok)
    → StandsAt (λ (bucket : Bucket). text_cmp bucket.name c.args.name.now) c.self.inside.buckets.items c.in-Ok.place
stands c =
    subst (λ (list : List Bucket). StandsAt (λ (bucket : Bucket). text_cmp bucket.name c.args.name.now)
    list c.in-Ok.place)
    c.deref.ensures.value c.in-Ok.ensures.found

-- the policies that are left
left : (c : In-Ok-not_admitted) → c.in-Ok-not_admitted.left.items
    ≡ filter (λ (policy : Policy). not (filter_admits c.args.filter.now policy.key)) c.index-bucket.result.now.policies
left c =
    c.in-Ok-not_admitted.ensures
    ∙ ap (filter (λ (policy : Policy). not (filter_admits c.args.filter.now policy.key))) c.policies.ensures

made : (c : In-Ok-with_policies) → (left : List Policy) → c.in-Ok-not_admitted.left.items ≡ left
    → c.in-Ok-with_policies.buckets.items ≡ filled c.in-Ok.place left c.self.inside.buckets.items
made c left is =
    c.in-Ok-with_policies.ensures ∙ (λ i. filled c.in-Ok.place (is i) (c.deref-2.ensures.value i))

pub invariant_of-result : goal.invariant_of-result
invariant_of-result c =
    let way = goal.at.invariant_of-result c in
    Kept-erased c.args.name.now c.args.filter.now c.self.inside.buckets.items c.in-Ok.place (stands way.In-Ok)
    c.index-bucket.result.now c.index-bucket.ensures c.in-Ok-with_policies.buckets.items
    (made way.In-Ok-with_policies _ (left way.In-Ok-not_admitted)) c.self.invariant

pub returns-in-Ok-with_policies-clause-next : goal.returns-in-Ok-with_policies-clause-next
returns-in-Ok-with_policies-clause-next c =
    let way = goal.at.returns-in-Ok-with_policies-clause-next c in
    erased-view c.args.name.now c.args.filter.now c.self.inside.buckets.items c.in-Ok.place (stands way.In-Ok)
    c.index-bucket.result.now c.index-bucket.ensures c.in-Ok-with_policies.buckets.items
    (made way.In-Ok-with_policies _ (left way.In-Ok-not_admitted))
    ∙ ap (erased c.args.name.now c.args.filter.now) c.self.view_is

pub returns-in-Ok-with_policies-clause-count : goal.returns-in-Ok-with_policies-clause-count
returns-in-Ok-with_policies-clause-count c =
    let way = goal.at.returns-in-Ok-with_policies-clause-count c in
    let counted =
    count-erased c.args.name.now c.args.filter.now c.self.inside.buckets.items c.in-Ok.place (stands way.In-Ok)
    c.index-bucket.result.now c.index-bucket.ensures c.args.self.now c.self.view_is in
    let long = ap length c.policies-2.ensures in
    let short = ap length (left way.In-Ok-not_admitted) in
    omega (arith, counted, long, short, c.len.ensures)

pub returns-in-Ok-with_policies-clause-accepted : goal.returns-in-Ok-with_policies-clause-accepted
returns-in-Ok-with_policies-clause-accepted c =
    let name = c.args.name.now in
    let has : has_bucket name c.args.self.now ≡ true =
    subst (λ (database : Database). has_bucket name database ≡ true) c.self.view_is
    (subst (λ (list : List Bucket). has_bucket name (database_of list) ≡ true) c.deref.ensures.value
    (has-found name c.deref.result.now c.in-Ok.place c.in-Ok.ensures.found)) in
    let sound = subst IsSound c.self.view_is c.self.invariant.sound in
    fault-found name c.args.self.now (erased name c.args.filter.now c.args.self.now) has
    (Sound-kept (λ placed. not (is_admitted name c.args.filter.now placed)) c.args.self.now sound)
