-- The least bucket on a cycle is the one that the refusal names.
use Rattle.std.proofs.Common.{◌≡◌, ℕ, ◌<◌, suc, zero, Bool, true, false, List, [], ◌∷◌, length, map, get_or, Some}
use Rattle.std.proofs.Common.{ap, ◌∙◌, cond, arith}
use Rattle.std.specs.Option.{option_map}
use Rattle.std.specs.List.{AllByRecursion, find, flat_map}
use Rattle.std.proofs.lemmas.Bool.{false_from_ne_true}
use Rattle.bucket_store.specs.Bucket.{Bucket}
use Rattle.bucket_store.specs.Database.{Heading, placed_of, heading_of, database_of}
use Rattle.bucket_store.specs.Refusal.{cycle}
use Rattle.bucket_store.specs.Walk.{is_on_cycle}
use Rattle.bucket_store.specs.WellFormed.{IsRooted}
use Rattle.bucket_store.specs.parts.Edit.{bucket_of}
use Rattle.bucket_store.specs.parts.Ending.{name_at, IsLeastAt}
use Rattle.bucket_store.specs.declared.refusals.StoreRefusal.TheVariants.{Cycle}
use Rattle.bucket_store.proofs.Walks.{Leads-reaches, is_on_cycle-Leads}

find-first : (test : List ℕ → Bool) (xs : List Bucket) (at : ℕ) (d : Bucket) → at < length xs
    → test (get_or xs at d).name ≡ true
    → ((k : ℕ) → k < at → test (get_or xs k d).name ≡ false)
    → find test (map (λ (heading : Heading). heading.name) (map heading_of xs)) ≡ Some (get_or xs at d).name
find-first test [] at d lt on before = absurd (omega arith)
find-first test (x ∷ xs) zero d lt on before =
    ap (λ b. cond b (Some x.name) (find test (map (λ (heading : Heading). heading.name) (map heading_of xs)))) on
find-first test (x ∷ xs) (suc at) d lt on before =
    ap (λ b. cond b (Some x.name) (find test (map (λ (heading : Heading). heading.name) (map heading_of xs))))
    (before zero (omega arith))
    ∙ find-first test xs at d (omega arith) on (λ k less. before (suc k) (omega arith))

pub least-named : (buckets : List Bucket)
    → AllByRecursion (IsRooted (database_of buckets)) (flat_map placed_of buckets)
    → (at : ℕ) → IsLeastAt buckets at → cycle (database_of buckets) ≡ Some (Cycle (name_at buckets at))
least-named buckets rooted at is =
    let database = database_of buckets in
    let blank : Bucket = bucket_of [] (record { kind = 0; metadata = [] }) [] in
    ap (option_map (λ name. Cycle name))
    (find-first (is_on_cycle database) buckets at blank is.in_range
    (is_on_cycle-Leads database rooted (name_at buckets at) is.on_cycle)
    (λ k less. false_from_ne_true (is_on_cycle database (name_at buckets k))
    (λ found. is.before k less
    (Leads-reaches database.policies (length database.buckets) (name_at buckets k) (name_at buckets k) found))))
