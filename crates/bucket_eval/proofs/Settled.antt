-- What a bucket answers within as many policies in turn as there are buckets, from what its policies contribute.
use Rattle.std.proofs.Common.{◌≡◌, ℕ, ◌<◌, zero, suc, true, List, [], ◌∷◌, length, slice_get, Option, Some, None, IfSome}
use Rattle.std.proofs.Common.{refl, ap, subst, arith}
use Rattle.std.specs.List.{filter_map}
use Rattle.std.proofs.lemmas.Bool.{or_left, or_right}
use Rattle.std.proofs.lemmas.List.{length-map}
use Rattle.std.proofs.lemmas.Option.{same_Some}
use Rattle.cynara_keys.specs.Minimum.{first_least}
use Rattle.cynara_keys.proofs.Order.{≡-same_text}
use Rattle.bucket_store.specs.Bucket.{Bucket}
use Rattle.bucket_store.specs.Database.{database_of, has_bucket, heading_of}
use Rattle.bucket_store.specs.WellFormed.{IsKept}
use Rattle.bucket_store.proofs.Walks.{walks_end}
use Rattle.bucket_eval.specs.Evaluation.{answer_within, contribution_cmp}
use Rattle.bucket_eval.specs.declared.nested.Asked.{Asked}
use Rattle.bucket_eval.specs.declared.nested.Held.{Held}
use Rattle.bucket_eval.specs.declared.nested.Offer.{Offer}
use Rattle.bucket_eval.specs.parts.Buckets.{IsHeld, Offers}
use Rattle.bucket_eval.specs.parts.Ends.{EndsWithin}
use Rattle.bucket_eval.specs.parts.Slots.{answer_to, offered_to}
use Rattle.bucket_eval.proofs.Depth.{answers-same}
use Rattle.bucket_eval.proofs.Held.{fallback-answers, offer-answers}

has-at : (buckets : List Bucket) (at : ℕ) (bucket : Bucket) → slice_get buckets at ≡ Some bucket
    → has_bucket bucket.name (database_of buckets) ≡ true
has-at [] at bucket is = cc
has-at (first ∷ buckets) zero bucket is =
    or_left _ _ (≡-same_text first.name bucket.name (ap (λ (b : Bucket). b.name) (same_Some _ _ is)))
has-at (first ∷ buckets) (suc at) bucket is = or_right _ _ (has-at buckets at bucket is)

-- no walk from a bucket has as many policies as there are buckets
pub ends-at : (buckets : List Bucket) (at : ℕ) (bucket : Bucket) → IsKept buckets → slice_get buckets at ≡ Some bucket
    → EndsWithin (database_of buckets).policies (length buckets) bucket.name
ends-at buckets at bucket kept is =
    λ steps walks. subst (λ n. length steps < n) (length-map buckets heading_of)
    (walks_end (database_of buckets) kept.sound.rooted kept.sound.no_cycle bucket.name steps (has-at buckets at bucket is)
    walks)

pub ends-there : (buckets : List Bucket) (at : ℕ) → IsKept buckets
    → IfSome (slice_get buckets at) (λ bucket. EndsWithin (database_of buckets).policies (length buckets) bucket.name)
ends-there buckets at kept = by-case (slice_get buckets at) refl
  where
    by-case : (here : Option Bucket) → slice_get buckets at ≡ here
        → IfSome here (λ (bucket : Bucket). EndsWithin (database_of buckets).policies (length buckets) bucket.name)
    by-case None is = tt
    by-case (Some bucket) is = ends-at buckets at bucket kept is

module _ (asked : Asked) (at : ℕ) (bucket : Bucket) (kept : IsKept asked.buckets.now)
    (is : slice_get asked.buckets.now at ≡ Some bucket) where
  -- one policy more in turn changes nothing
  once-more : answer_within (database_of asked.buckets.now) asked.question.now asked.deep
      (suc (length asked.buckets.now)) bucket.name
      ≡ answer_to asked bucket.name
  once-more =
      answers-same (database_of asked.buckets.now) asked.question.now asked.deep (length asked.buckets.now)
      (suc (length asked.buckets.now)) bucket.name (ends-at asked.buckets.now at bucket kept is) (omega arith)

  pub settled-offer : (held : Held) (offer : Offer)
      → Offers asked.buckets.now (first_least contribution_cmp
      (filter_map (offered_to asked bucket.name) bucket.policies)) (Some offer)
      → held.found ≡ offer.found → held.result.now ≡ offer.result.now
      → IsHeld asked.buckets.now (answer_to asked bucket.name) held
  settled-offer held offer offers found result =
      subst (λ o. IsHeld asked.buckets.now o held) once-more
      (offer-answers asked.buckets.now asked.question.now asked.deep (length asked.buckets.now) at bucket held offer
      kept.names_rise is offers found result)

  pub settled-fallback : (held : Held)
      → Offers asked.buckets.now (first_least contribution_cmp
      (filter_map (offered_to asked bucket.name) bucket.policies)) None
      → held.found.kind.0 ≡ bucket.fallback.kind → held.found.bucket ≡ at
      → held.found.policy ≡ None → held.result.now ≡ bucket.fallback
      → IsHeld asked.buckets.now (answer_to asked bucket.name) held
  settled-fallback held offers kind of_bucket of_policy result =
      subst (λ o. IsHeld asked.buckets.now o held) once-more
      (fallback-answers asked.buckets.now asked.question.now asked.deep (length asked.buckets.now) at bucket held
      kept.names_rise is offers kind of_bucket of_policy result)
