-- What slots say of the buckets' answers.
use Rattle.std.proofs.Common.{◌≡◌, ◌≢◌, ℕ, ◌+◌, ◌<◌, ◌≤◌, ◌==◌, zero, suc, Bool, true, false, cond, List, [], ◌∷◌, length}
use Rattle.std.proofs.Common.{slice_get, option_and_then, Option, None, Some, is_some, IfSome, refl, sym, ap, ◌∙◌}
use Rattle.std.proofs.Common.{subst, arith, inl, inr, ◌++◌, length-append, length-set}
use Rattle.std.proofs.Math.ListN.{set}
use Rattle.std.specs.Option.{option_map}
use Rattle.std.specs.List.{flat_map}
use Rattle.std.proofs.lemmas.Bool.{false≢true, true≢false, cases_eq}
use Rattle.std.proofs.lemmas.List.{length-map}
use Rattle.std.proofs.lemmas.Option.{same_Some}
use Rattle.cynara_keys.specs.declared.keys.Policy.{Policy}
use Rattle.bucket_store.specs.Bucket.{Bucket}
use Rattle.bucket_store.specs.Database.{Placed, placed_of}
use Rattle.bucket_store.specs.WellFormed.{IsKept}
use Rattle.bucket_eval.specs.Evaluation.{Outcome}
use Rattle.bucket_eval.specs.declared.nested.Asked.{Asked}
use Rattle.bucket_eval.specs.declared.nested.Held.{Held}
use Rattle.bucket_eval.specs.declared.slots.Slot.{Slot}
use Rattle.bucket_eval.specs.parts.Buckets.{outcome_in, outcome_at, IsHeld}
use Rattle.bucket_eval.specs.parts.Slots.{AreSound, Grows, Spot, answer_to, is_known, none_or, outcome_of_spot, spot_at, spot_of, unknowns}
use Rattle.bucket_eval.proofs.Places.{some-there, some-policy}

-- ---- what a slot says

spot-by : (bucket : ℕ) (policy : Option ℕ) (none : Bool) (of : ℕ)
    → option_map (λ (spot : Spot). spot.bucket) (cond {A = Option Spot} none None (Some (record { bucket = bucket; policy = policy })))
    ≡ Some of
    → cond {A = Option Spot} none None (Some (record { bucket = bucket; policy = policy })) ≡ Some (record { bucket = of; policy = policy })
spot-by bucket policy true of is = cc
spot-by bucket policy false of is =
    ap (λ b. let spot : Spot = record { bucket = b; policy = policy } in Some spot) (same_Some _ _ is)

-- a slot with a place is a spot
pub spot-some : (slot : Slot) (of : ℕ) → Some of ≡ option_map (λ (spot : Spot). spot.bucket) (spot_of slot)
    → spot_of slot ≡ Some (record { bucket = of; policy = none_or slot.policy })
spot-some slot of is = spot-by slot.bucket (none_or slot.policy) (slot.bucket == 4294967295) of (sym is)

-- the spot at a place
pub spot_at-is : (slots : List Slot) (at : ℕ) (slot : Slot) (spot : Option Spot) → slice_get slots at ≡ Some slot
    → spot_of slot ≡ spot → spot_at slots at ≡ spot
spot_at-is slots at slot spot is of = ap (option_and_then spot_of) is ∙ of

-- ---- the outcome of a spot

-- its bucket is there
pub spot-bucket : (buckets : List Bucket) (spot : Spot) (outcome : Outcome) → outcome_of_spot buckets spot ≡ Some outcome
    → spot.bucket < length buckets
spot-bucket buckets spot outcome is =
    some-there (outcome_in spot.policy) buckets spot.bucket (slice_get buckets spot.bucket) refl (ap is_some is)

in-bucket : (buckets : List Bucket) (spot : Spot) (bucket : Bucket) (policy : Option ℕ) (outcome : Outcome)
    → slice_get buckets spot.bucket ≡ Some bucket → spot.policy ≡ policy → outcome_of_spot buckets spot ≡ Some outcome
    → outcome_in policy bucket ≡ Some outcome
in-bucket buckets spot bucket policy outcome there of_policy is =
    sym (ap (option_and_then (outcome_in spot.policy)) there ∙ ap (λ p. outcome_in p bucket) of_policy) ∙ is

-- and so is its policy
pub spot-policy : (buckets : List Bucket) (spot : Spot) (bucket : Bucket) (place : ℕ) (outcome : Outcome)
    → slice_get buckets spot.bucket ≡ Some bucket → spot.policy ≡ Some place → outcome_of_spot buckets spot ≡ Some outcome
    → place < length bucket.policies
spot-policy buckets spot bucket place outcome there of_policy is =
    some-policy (λ (p : Policy). let o : Outcome = record {
      result = p.result;
      cause = record { bucket = bucket.name; key = Some p.key };
    } in o)
    bucket.policies place (slice_get bucket.policies place) refl
    (ap is_some (in-bucket buckets spot bucket (Some place) outcome there of_policy is))

held-there : (buckets : List Bucket) (spot : Spot) (outcome : Outcome) (held : Held)
    → outcome_of_spot buckets spot ≡ Some outcome → held.found.bucket ≡ spot.bucket → held.found.policy ≡ spot.policy
    → outcome_at buckets held.found ≡ Some outcome
held-there buckets spot outcome held is of_bucket of_policy =
    ap (λ k. option_and_then (outcome_in held.found.policy) (slice_get buckets k)) of_bucket
    ∙ ap (λ p. option_and_then (outcome_in p) (slice_get buckets spot.bucket)) of_policy ∙ is

pub spot-held-policy : (buckets : List Bucket) (spot : Spot) (bucket : Bucket) (place : ℕ) (policy : Policy)
    (outcome : Outcome) (held : Held)
    → slice_get buckets spot.bucket ≡ Some bucket → spot.policy ≡ Some place → outcome_of_spot buckets spot ≡ Some outcome
    → slice_get bucket.policies place ≡ Some policy
    → held.found.kind.0 ≡ policy.result.kind → held.found.bucket ≡ spot.bucket → held.found.policy ≡ Some place
    → held.result.now ≡ policy.result → IsHeld buckets outcome held
spot-held-policy buckets spot bucket place policy outcome held there of_policy is at kind of_bucket held_policy result =
    let made : Policy → Outcome = λ p. record {
      result = p.result;
      cause = record { bucket = bucket.name; key = Some p.key };
    } in
    let own : made policy ≡ outcome =
    same_Some _ _ (sym (ap (option_map made) at) ∙ in-bucket buckets spot bucket (Some place) outcome there of_policy is) in
    record {
      there = held-there buckets spot outcome held is of_bucket (held_policy ∙ sym of_policy);
      kind = kind ∙ ap (λ (o : Outcome). o.result.kind) own;
      result = result ∙ ap (λ (o : Outcome). o.result) own;
    }

pub spot-held-fallback : (buckets : List Bucket) (spot : Spot) (bucket : Bucket) (outcome : Outcome) (held : Held)
    → slice_get buckets spot.bucket ≡ Some bucket → spot.policy ≡ None → outcome_of_spot buckets spot ≡ Some outcome
    → held.found.kind.0 ≡ bucket.fallback.kind → held.found.bucket ≡ spot.bucket → held.found.policy ≡ None
    → held.result.now ≡ bucket.fallback → IsHeld buckets outcome held
spot-held-fallback buckets spot bucket outcome held there of_policy is kind of_bucket held_policy result =
    let fallback : Outcome = record { result = bucket.fallback; cause = record { bucket = bucket.name; key = None } } in
    let own : fallback ≡ outcome = same_Some _ _ (in-bucket buckets spot bucket None outcome there of_policy is) in
    record {
      there = held-there buckets spot outcome held is of_bucket (held_policy ∙ sym of_policy);
      kind = kind ∙ ap (λ (o : Outcome). o.result.kind) own;
      result = result ∙ ap (λ (o : Outcome). o.result) own;
    }

-- what is known of the bucket at a place
pub record Told (asked : Asked) (at : ℕ) (spot : Spot) : Type 0 where
  pub bucket : Bucket
  pub there : slice_get asked.buckets.now at ≡ Some bucket
  pub is : outcome_of_spot asked.buckets.now spot ≡ Some (answer_to asked bucket.name)

pub element-at : {X : Type 0} (xs : List X) (at : ℕ) → at < length xs → (x : X) × (slice_get xs at ≡ Some x)
element-at [] at within = absurd (omega arith)
element-at (x ∷ xs) zero within = (x, refl)
element-at (x ∷ xs) (suc at) within = element-at xs at (omega arith)

pub told-at : (asked : Asked) (slots : List Slot) (at : ℕ) (slot : Slot) (of : ℕ) → AreSound asked slots
    → at < length asked.buckets.now → slice_get slots at ≡ Some slot
    → Some of ≡ option_map (λ (spot : Spot). spot.bucket) (spot_of slot)
    → Told asked at (record { bucket = of; policy = none_or slot.policy })
told-at asked slots at slot of sound within there is =
    let here = element-at asked.buckets.now at within in
    record {
      bucket = here.0;
      there = here.1;
      is = sound at here.0 (record { bucket = of; policy = none_or slot.policy }) here.1
          (spot_at-is slots at slot (Some (record { bucket = of; policy = none_or slot.policy })) there (spot-some slot of is));
    }

pub told-held : (asked : Asked) (at : ℕ) (spot : Spot) (held : Held) (told : Told asked at spot)
    → IsHeld asked.buckets.now (answer_to asked told.bucket.name) held
    → IfSome (slice_get asked.buckets.now at) (λ bucket. IsHeld asked.buckets.now (answer_to asked bucket.name) held)
told-held asked at spot held told is =
    subst (λ o. IfSome o (λ bucket. IsHeld asked.buckets.now (answer_to asked bucket.name) held)) (sym told.there) is

-- ---- a slot that is set

pub get-set : {X : Type 0} (xs : List X) (at : ℕ) (x : X) → at < length xs → slice_get (set xs at x) at ≡ Some x
get-set [] at x within = absurd (omega arith)
get-set (y ∷ xs) zero x within = refl
get-set (y ∷ xs) (suc at) x within = get-set xs at x (omega arith)

pub get-set-other : {X : Type 0} (xs : List X) (at k : ℕ) (x : X) → k ≢ at → slice_get (set xs at x) k ≡ slice_get xs k
get-set-other [] at k x apart = refl
get-set-other (y ∷ xs) zero zero x apart = absurd (apart refl)
get-set-other (y ∷ xs) zero (suc k) x apart = refl
get-set-other (y ∷ xs) (suc at) zero x apart = refl
get-set-other (y ∷ xs) (suc at) (suc k) x apart = get-set-other xs at k x (λ e. apart (ap suc e))

pub sound-set : (asked : Asked) (slots : List Slot) (at : ℕ) (bucket : Bucket) (slot : Slot) (spot : Spot)
    → AreSound asked slots → at < length slots → slice_get asked.buckets.now at ≡ Some bucket → spot_of slot ≡ Some spot
    → outcome_of_spot asked.buckets.now spot ≡ Some (answer_to asked bucket.name)
    → AreSound asked (set slots at slot)
sound-set asked slots at bucket slot spot sound within there of is =
    λ k other told other_there known_is. elim (cases_eq k at) [
      | inl same ↦
          (let own : spot_at (set slots at slot) at ≡ Some spot =
          spot_at-is (set slots at slot) at slot (Some spot) (get-set slots at slot within) of in
          let spots : spot ≡ told =
          same_Some _ _ (sym own ∙ ap (spot_at (set slots at slot)) (sym same) ∙ known_is) in
          let buckets : bucket ≡ other =
          same_Some _ _ (sym there ∙ ap (slice_get asked.buckets.now) (sym same) ∙ other_there) in
          subst (λ s. outcome_of_spot asked.buckets.now s ≡ Some (answer_to asked other.name)) spots
          (is ∙ ap (λ (b : Bucket). Some (answer_to asked b.name)) buckets))
      | inr apart ↦
          sound k other told other_there
          (sym (ap (option_and_then spot_of) (get-set-other slots at k slot apart)) ∙ known_is)
    ]

pub known-set : (slots : List Slot) (at : ℕ) (slot : Slot) (spot : Spot) → at < length slots → spot_of slot ≡ Some spot
    → is_known (set slots at slot) at ≡ true
known-set slots at slot spot within of =
    ap is_some (spot_at-is (set slots at slot) at slot (Some spot) (get-set slots at slot within) of)

pub grows-set : (slots : List Slot) (at : ℕ) (slot : Slot) (spot : Spot) → at < length slots → spot_of slot ≡ Some spot
    → Grows slots (set slots at slot)
grows-set slots at slot spot within of = record {
  room = length-set slots at slot;
  known = λ k is. elim (cases_eq k at) [
    | inl same ↦ subst (λ n. is_known (set slots at slot) n ≡ true) (sym same) (known-set slots at slot spot within of)
    | inr apart ↦ ap (λ o. is_some (option_and_then spot_of o)) (get-set-other slots at k slot apart) ∙ is
  ];
}

pub grows-more : (old between new : List Slot) → Grows old between → Grows between new → Grows old new
grows-more old between new first then = record {
  room = then.room ∙ first.room;
  known = λ at is. then.known at (first.known at is);
}

-- ---- fewer buckets of which nothing is known

tail-grows : (x y : Slot) (xs ys : List Slot) → Grows (x ∷ xs) (y ∷ ys) → Grows xs ys
tail-grows x y xs ys grows =
    let room = grows.room in record { room = omega (arith, room); known = λ at is. grows.known (suc at) is }

one-more : (old new : Bool) (before after : ℕ) → (old ≡ true → new ≡ true) → after ≤ before
    → cond new 0 1 + after ≤ cond old 0 1 + before
one-more true true before after kept le = omega arith
one-more true false before after kept le = absurd (false≢true (kept refl))
one-more false true before after kept le = omega arith
one-more false false before after kept le = omega arith

not-more : (old new : List Slot) → Grows old new → unknowns new ≤ unknowns old
not-more [] [] grows = omega arith
not-more [] (y ∷ new) grows = let room = grows.room in absurd (omega (arith, room))
not-more (x ∷ old) [] grows = let room = grows.room in absurd (omega (arith, room))
not-more (x ∷ old) (y ∷ new) grows =
    one-more (is_some (spot_of x)) (is_some (spot_of y)) (unknowns old) (unknowns new) (grows.known 0)
    (not-more old new (tail-grows x y old new grows))

one-less : (old new : Bool) (before after : ℕ) → old ≡ false → new ≡ true → after ≤ before
    → cond new 0 1 + after < cond old 0 1 + before
one-less true new before after is known le = absurd (true≢false is)
one-less false true before after is known le = omega arith
one-less false false before after is known le = absurd (false≢true known)

one-kept : (old new : Bool) (before after : ℕ) → (old ≡ true → new ≡ true) → after < before
    → cond new 0 1 + after < cond old 0 1 + before
one-kept true true before after kept le = omega arith
one-kept true false before after kept le = absurd (false≢true (kept refl))
one-kept false true before after kept le = omega arith
one-kept false false before after kept le = omega arith

pub fewer-unknown : (old new : List Slot) (at : ℕ) → Grows old new → spot_at old at ≡ None → is_known new at ≡ true
    → unknowns new < unknowns old
fewer-unknown [] [] at grows none is = absurd (false≢true is)
fewer-unknown [] (y ∷ new) at grows none is = let room = grows.room in absurd (omega (arith, room))
fewer-unknown (x ∷ old) [] at grows none is = let room = grows.room in absurd (omega (arith, room))
fewer-unknown (x ∷ old) (y ∷ new) zero grows none is =
    one-less (is_some (spot_of x)) (is_some (spot_of y)) (unknowns old) (unknowns new) (ap is_some none) is
    (not-more old new (tail-grows x y old new grows))
fewer-unknown (x ∷ old) (y ∷ new) (suc at) grows none is =
    one-kept (is_some (spot_of x)) (is_some (spot_of y)) (unknowns old) (unknowns new) (grows.known 0)
    (fewer-unknown old new at (tail-grows x y old new grows) none is)

-- ---- the places of an answer fit a slot

pub length-policies : (buckets : List Bucket) (at : ℕ) (bucket : Bucket) → slice_get buckets at ≡ Some bucket
    → length bucket.policies ≤ length (flat_map placed_of buckets)
length-policies [] at bucket is = cc
length-policies (first ∷ buckets) zero bucket is =
    let same : first ≡ bucket = same_Some _ _ is in
    let placed = length-map first.policies (λ policy. let p : Placed = record { bucket = first.name; policy = policy } in p) in
    subst (λ (b : Bucket). length b.policies ≤ length (placed_of first ++ flat_map placed_of buckets)) same
    (omega (arith, length-append (placed_of first) (flat_map placed_of buckets), placed))
length-policies (first ∷ buckets) (suc at) bucket is =
    let rest = length-policies buckets at bucket is in
    omega (arith, rest, length-append (placed_of first) (flat_map placed_of buckets))

policy-at : (buckets : List Bucket) (at place : ℕ) (here : Option Bucket) (outcome : Outcome) → IsKept buckets
    → slice_get buckets at ≡ here → option_and_then (outcome_in (Some place)) here ≡ Some outcome → place < 65536
policy-at buckets at place None outcome kept there is = cc
policy-at buckets at place (Some bucket) outcome kept there is =
    let within = some-policy (λ (p : Policy). let o : Outcome = record {
      result = p.result;
      cause = record { bucket = bucket.name; key = Some p.key };
    } in o)
    bucket.policies place (slice_get bucket.policies place) refl (ap is_some is) in
    let few = kept.sound.policies in
    omega (arith, within, few, length-policies buckets at bucket there)

pub held-policy : (buckets : List Bucket) (outcome : Outcome) (held : Held) → IsKept buckets
    → IsHeld buckets outcome held → IfSome held.found.policy (λ place. place < 65536)
held-policy buckets outcome held kept is =
    by-policy held.found.policy refl
  where
    by-policy : (policy : Option ℕ) → held.found.policy ≡ policy → IfSome policy (λ place. place < 65536)
    by-policy None of = tt
    by-policy (Some place) of =
        policy-at buckets held.found.bucket place (slice_get buckets held.found.bucket) outcome kept refl
        (sym (ap (λ p. option_and_then (outcome_in p) (slice_get buckets held.found.bucket)) of) ∙ is.there)
