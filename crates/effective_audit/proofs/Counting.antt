-- Where the pairs are not too many, neither are the privileges; a bucket has no more policies than all buckets.
use Rattle.std.proofs.Common.{◌≡◌, ◌+◌, ◌*◌, ◌<◌, ◌≤◌, ℕ, zero, suc, false, eqb, min, List, [], ◌∷◌, ◌++◌, length, slice_get, Some, subst, arith, length-append}
use Rattle.std.specs.List.{flat_map}
use Rattle.std.proofs.lemmas.List.{length-map}
use Rattle.std.proofs.lemmas.Nat.{row_fits}
use Rattle.std.proofs.lemmas.Option.{same_Some}
use Rattle.bucket_store.specs.Bucket.{Bucket}
use Rattle.bucket_store.specs.Database.{Placed, placed_of}

small : (none product count : ℕ) → none + count ≤ product → min product 18446744073709551615 ≤ 65536 → count ≤ 65536
small none product count within few = omega (arith, within, few)

pub few-each : (clients privileges : ℕ) → eqb clients 0 ≡ false → min (clients * privileges) 18446744073709551615 ≤ 65536
    → privileges ≤ 65536
few-each zero privileges some few = cc
few-each (suc clients) privileges some few =
    small (0 * privileges) (suc clients * privileges) privileges
    (row_fits 0 privileges (suc clients) privileges (omega arith) (omega arith)) few

pub length-policies : (buckets : List Bucket) (at : ℕ) (bucket : Bucket) → slice_get buckets at ≡ Some bucket
    → length bucket.policies ≤ length (flat_map placed_of buckets)
length-policies [] at bucket is = cc
length-policies (first ∷ buckets) zero bucket is =
    let same : first ≡ bucket = same_Some _ _ is in
    let placed = length-map first.policies (λ policy. let p : Placed = record { bucket = first.name; policy = policy } in p) in
    subst (λ (b : Bucket). length b.policies ≤ length (placed_of first ++ flat_map placed_of buckets)) same
    (omega (arith, length-append (placed_of first) (flat_map placed_of buckets), placed))
length-policies (first ∷ buckets) (suc at) bucket is =
    let rest = length-policies buckets at bucket is in
    omega (arith, rest, length-append (placed_of first) (flat_map placed_of buckets))
