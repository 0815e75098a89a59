-- What the buckets of a database keep, at a place.
use Rattle.std.proofs.Common.{◌≡◌, ℕ, zero, suc, List, [], ◌∷◌, slice_get, get_or, Some, IfSome, sym, subst}
use Rattle.std.specs.List.{AllByRecursion}
use Rattle.std.specs.List.Sorted.{IsStrictlySortedBy}
use Rattle.cynara_keys.specs.declared.keys.Policy.{Policy}
use Rattle.bucket_store.specs.Bucket.{Bucket}
use Rattle.bucket_store.specs.Order.{policy_cmp}

-- the policies of a bucket at its place rise
pub rising-at : (buckets : List Bucket) (at : ℕ) (bucket : Bucket)
    → AllByRecursion (λ (b : Bucket). IsStrictlySortedBy policy_cmp b.policies) buckets
    → slice_get buckets at ≡ Some bucket → IsStrictlySortedBy policy_cmp bucket.policies
rising-at [] at bucket all is = cc
rising-at (first ∷ buckets) zero bucket all is =
    let same : first ≡ bucket = cc in subst (λ (b : Bucket). IsStrictlySortedBy policy_cmp b.policies) same all.0
rising-at (first ∷ buckets) (suc at) bucket all is = rising-at buckets at bucket all.1 is

-- the policy at a place of an equal list
pub policy-at : (policies result : List Policy) (place : ℕ) (policy : Policy) → result ≡ policies
    → policy ≡ get_or result place policy → policy ≡ get_or policies place policy
policy-at policies result place policy same is = subst (λ policies. policy ≡ get_or policies place policy) same is

-- what holds of the element at the place
pub if-at : {X : Type 0} (P : X → Type 0) (xs : List X) (at : ℕ) (x : X) → slice_get xs at ≡ Some x → P x
    → IfSome (slice_get xs at) P
if-at P xs at x is holds = subst (λ o. IfSome o P) (sym is) holds

pub of-at : {X : Type 0} (P : X → Type 0) (xs : List X) (at : ℕ) (x : X) → slice_get xs at ≡ Some x
    → IfSome (slice_get xs at) P → P x
of-at P xs at x is holds = subst (λ o. IfSome o P) is holds
