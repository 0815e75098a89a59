-- The policies whose rows are taken are those that match the question.
use Rattle.std.proofs.Common.{◌≡◌, ℕ, ◌+◌, Bool, true, false, cond, ◌&&◌, List, [], ◌∷◌, map, refl, sym, ap, ◌∙◌}
use Rattle.std.specs.List.{filter, list_any}
use Rattle.cynara_keys.specs.Key.{Question, key_matches}
use Rattle.cynara_keys.specs.Text.{same_text}
use Rattle.cynara_keys.specs.declared.keys.Policy.{Policy}
use Rattle.lane_scan.specs.Asked.{covers}
use Rattle.lane_scan.specs.Rows.{Row, numbers_from}
use Rattle.bucket_store.specs.Bucket.{Bucket}
use Rattle.bucket_store.specs.Database.{Placed}
use Rattle.bucket_store.specs.parts.Rows.{at_places}
use Rattle.bucket_store.proofs.Kept.{keep}
use Rattle.bucket_store.proofs.RowChoice.{places-passing}
use Rattle.evaluation_laws.proofs.Matching.{filter-both}
use Rattle.effective_audit.specs.Audit.{asked}
use Rattle.effective_audit.specs.parts.Narrowing.{place_number, row_of, concerns, narrow_of, chosen}
use Rattle.effective_audit.proofs.Numbering.{covers-matches}

-- the numbers of rows that are made of elements
numbers-map : {X : Type 0} (test : Row → Bool) (row : X → Row) (first : ℕ) (xs : List X)
    → numbers_from first test (map row xs) ≡ numbers_from first (λ x. test (row x)) xs
numbers-map test row first [] = refl
numbers-map test row first (x ∷ xs) =
    ap (λ rest. cond (test (row x)) (first ∷ rest) rest) (numbers-map test row (first + 1) xs)

pub filter-same : {X : Type 0} (one other : X → Bool) → ((x : X) → one x ≡ other x) → (xs : List X) → filter one xs ≡ filter other xs
filter-same one other same [] = refl
filter-same one other same (x ∷ xs) =
    ap (λ rest. cond (one x) (x ∷ rest) rest) (filter-same one other same xs)
    ∙ ap (λ keeps. cond keeps (x ∷ filter other xs) (filter other xs)) (same x)

-- a policy, wherever it stands, matches the question
abbrev pub passes : Question → Placed → Bool
passes question placed = key_matches placed.policy.key question

module _ (privileges : List (List ℕ)) (client user privilege : List ℕ) (known : list_any (same_text privilege) privileges ≡ true) where
  abbrev number : ℕ
  number = place_number privileges privilege

  abbrev covered : Policy → Bool
  covered policy = covers (1 ∷ 1 ∷ number ∷ []) (row_of privileges policy)

  policies-chosen : (policies : List Policy)
      → (let near = filter (concerns client user) policies in
      at_places near (numbers_from 0 (covers (1 ∷ 1 ∷ number ∷ [])) (map (row_of privileges) near)))
      ≡ filter (λ policy. key_matches policy.key (asked user client privilege)) policies
  policies-chosen policies =
      let near = filter (concerns client user) policies in
      ap (at_places near) (numbers-map (covers (1 ∷ 1 ∷ number ∷ [])) (row_of privileges) 0 near)
      ∙ places-passing covered near
      ∙ filter-both (concerns client user) covered policies
      ∙ filter-same (λ policy. concerns client user policy && covered policy)
      (λ policy. key_matches policy.key (asked user client privilege)) (covers-matches privileges client user privilege known) policies

  bucket-chosen : (bucket : Bucket)
      → chosen number (narrow_of privileges client user bucket) ≡ keep (passes (asked user client privilege)) bucket
  bucket-chosen bucket =
      ap (λ policies. let made : Bucket = record { name = bucket.name; fallback = bucket.fallback; policies = policies } in made)
      (policies-chosen bucket.policies)

  pub buckets-chosen : (buckets : List Bucket)
      → map (chosen number) (map (narrow_of privileges client user) buckets) ≡ map (keep (passes (asked user client privilege))) buckets
  buckets-chosen [] = refl
  buckets-chosen (bucket ∷ buckets) =
      ap (λ first. first ∷ map (chosen number) (map (narrow_of privileges client user) buckets)) (bucket-chosen bucket)
      ∙ ap (λ rest. keep (passes (asked user client privilege)) bucket ∷ rest) (buckets-chosen buckets)
