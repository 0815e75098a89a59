-- An outcome by places in a database is that in its list of buckets.
use Rattle.std.proofs.Common.{◌≡◌, ℕ, ◌<◌, Bool, true, zero, suc, List, [], ◌∷◌, length, map, slice_get}
use Rattle.std.proofs.Common.{option_and_then, Option, None, Some, IfSome, is_some, refl, sym, ap, ◌∙◌, subst, arith}
use Rattle.std.specs.List.Sorted.{IsStrictlySortedBy}
use Rattle.std.specs.Option.{option_map}
use Rattle.std.proofs.lemmas.Bool.{false≢true}
use Rattle.std.proofs.lemmas.List.{length-map}
use Rattle.std.proofs.lemmas.Option.{slice_get-map, slice_get_within}
use Rattle.cynara_keys.specs.declared.keys.Policy.{Policy}
use Rattle.cynara_keys.specs.Key.{Question}
use Rattle.bucket_store.specs.Bucket.{Bucket}
use Rattle.bucket_store.specs.Database.{Database, Heading, database_of, heading_of}
use Rattle.bucket_store.specs.Order.{bucket_cmp}
use Rattle.bucket_eval.specs.Evaluation.{Outcome, answer_within, answer}
use Rattle.bucket_eval.specs.Found.{outcome_in as outcome_under, outcome_at as outcome_by_places}
use Rattle.bucket_eval.specs.parts.Buckets.{outcome_in, outcome_at, IsHeld}
use Rattle.bucket_eval.specs.declared.answers.Found.{Found}
use Rattle.bucket_eval.specs.declared.nested.Held.{Held}
use Rattle.bucket_eval.proofs.Buckets.{policies_of-at}

in-same : (buckets : List Bucket) (at : ℕ) (bucket : Bucket) (policy : Option ℕ) → IsStrictlySortedBy bucket_cmp buckets
    → slice_get buckets at ≡ Some bucket
    → outcome_under (database_of buckets) policy (heading_of bucket) ≡ outcome_in policy bucket
in-same buckets at bucket None rise is = refl
in-same buckets at bucket (Some place) rise is =
    ap (λ policies. option_map
    (λ (p : Policy). let outcome : Outcome = record {
      result = p.result;
      cause = record { bucket = bucket.name; key = Some p.key };
    } in outcome)
    (slice_get policies place)) (policies_of-at buckets at bucket rise is)

at-same : (buckets : List Bucket) (at : ℕ) (here : Option Bucket) (policy : Option ℕ)
    → IsStrictlySortedBy bucket_cmp buckets
    → slice_get buckets at ≡ here
    → option_and_then (outcome_under (database_of buckets) policy) (option_map heading_of here)
    ≡ option_and_then (outcome_in policy) here
at-same buckets at None policy rise is = refl
at-same buckets at (Some bucket) policy rise is = in-same buckets at bucket policy rise is

pub outcome_at-same : (buckets : List Bucket) (found : Found) → IsStrictlySortedBy bucket_cmp buckets
    → outcome_by_places (database_of buckets) found ≡ outcome_at buckets found
outcome_at-same buckets found rise =
    ap (option_and_then (outcome_under (database_of buckets) found.policy))
    (slice_get-map heading_of buckets found.bucket)
    ∙ at-same buckets found.bucket (slice_get buckets found.bucket) found.policy rise refl

pub some-there : {X Y : Type 0} (f : X → Option Y) (xs : List X) (at : ℕ) (here : Option X) → slice_get xs at ≡ here
    → is_some (option_and_then f here) ≡ true → at < length xs
some-there f xs at None is some = absurd (false≢true some)
some-there f xs at (Some x) is some = slice_get_within xs at x is

-- the bucket of an outcome by places is there
pub bucket-there : (database : Database) (buckets : List Bucket) (found : Found) → database_of buckets ≡ database
    → is_some (outcome_by_places database found) ≡ true → found.bucket < length buckets
bucket-there database buckets found same some =
    let own : is_some (outcome_by_places (database_of buckets) found) ≡ true =
    subst (λ d. is_some (outcome_by_places d found) ≡ true) (sym same) some in
    subst (λ n. found.bucket < n) (length-map buckets heading_of)
    (some-there (outcome_under (database_of buckets) found.policy) (map heading_of buckets) found.bucket
    (slice_get (map heading_of buckets) found.bucket) refl own)

-- an outcome by places is that in the bucket at its place
pub outcome_at-bucket : (database : Database) (buckets : List Bucket) (found : Found) (bucket : Bucket)
    (policy : Option ℕ)
    → database_of buckets ≡ database → IsStrictlySortedBy bucket_cmp buckets
    → slice_get buckets found.bucket ≡ Some bucket → found.policy ≡ policy
    → outcome_by_places database found ≡ outcome_in policy bucket
outcome_at-bucket database buckets found bucket policy same rise is of_policy =
    ap (λ d. outcome_by_places d found) (sym same) ∙ outcome_at-same buckets found rise
    ∙ ap (option_and_then (outcome_in found.policy)) is ∙ ap (λ p. outcome_in p bucket) of_policy

pub some-policy : {X Y : Type 0} (f : X → Y) (xs : List X) (at : ℕ) (here : Option X) → slice_get xs at ≡ here
    → is_some (option_map f here) ≡ true → at < length xs
some-policy f xs at None is some = absurd (false≢true some)
some-policy f xs at (Some x) is some = slice_get_within xs at x is

-- and so is its policy
pub policy-there : (database : Database) (buckets : List Bucket) (found : Found) (bucket : Bucket) (place : ℕ)
    → database_of buckets ≡ database → IsStrictlySortedBy bucket_cmp buckets
    → slice_get buckets found.bucket ≡ Some bucket → found.policy ≡ Some place
    → is_some (outcome_by_places database found) ≡ true → place < length bucket.policies
policy-there database buckets found bucket place same rise is of_policy some =
    some-policy (λ (p : Policy). let outcome : Outcome = record {
      result = p.result;
      cause = record { bucket = bucket.name; key = Some p.key };
    } in outcome)
    bucket.policies place (slice_get bucket.policies place) refl
    (subst (λ o. is_some o ≡ true) (outcome_at-bucket database buckets found bucket (Some place) same rise is of_policy)
    some)

-- ---- what is held, as an outcome by places

held-at : (buckets : List Bucket) (question : Question) (deep : Bool) (left : ℕ) (here : Option Bucket) (held : Held)
    → IsStrictlySortedBy bucket_cmp buckets → left ≡ length buckets
    → IfSome here (λ bucket. IsHeld buckets (answer_within (database_of buckets) question deep left bucket.name) held)
    → IfSome (option_map heading_of here) (λ heading.
    outcome_by_places (database_of buckets) held.found ≡ Some (answer (database_of buckets) heading.name question deep))
held-at buckets question deep left None held rise whole is = tt
held-at buckets question deep left (Some bucket) held rise whole is =
    outcome_at-same buckets held.found rise ∙ is.there
    ∙ ap (λ n. Some (answer_within (database_of buckets) question deep n bucket.name))
    (whole ∙ sym (length-map buckets heading_of))

pub held-answer : (database : Database) (buckets : List Bucket) (question : Question) (deep : Bool) (left start : ℕ)
    (held : Held)
    → database_of buckets ≡ database → IsStrictlySortedBy bucket_cmp buckets → left ≡ length buckets
    → IfSome (slice_get buckets start) (λ bucket.
    IsHeld buckets (answer_within (database_of buckets) question deep left bucket.name) held)
    → IfSome (slice_get database.buckets start) (λ heading.
    outcome_by_places database held.found ≡ Some (answer database heading.name question deep))
held-answer database buckets question deep left start held same rise whole is =
    subst (λ (d : Database). IfSome (slice_get d.buckets start) (λ heading.
    outcome_by_places d held.found ≡ Some (answer d heading.name question deep))) same
    (subst (λ o. IfSome o (λ heading.
    outcome_by_places (database_of buckets) held.found ≡ Some
    (answer (database_of buckets) heading.name question deep)))
    (sym (slice_get-map heading_of buckets start))
    (held-at buckets question deep left (slice_get buckets start) held rise whole is))

kind-at : (buckets : List Bucket) (question : Question) (deep : Bool) (left : ℕ) (here : Option Bucket) (held : Held)
    → IsStrictlySortedBy bucket_cmp buckets → is_some here ≡ true
    → IfSome here (λ bucket. IsHeld buckets (answer_within (database_of buckets) question deep left bucket.name) held)
    → IfSome (outcome_by_places (database_of buckets) held.found) (λ outcome. held.found.kind.0 ≡ outcome.result.kind)
kind-at buckets question deep left None held rise some is = absurd (false≢true some)
kind-at buckets question deep left (Some bucket) held rise some is =
    subst (λ o. IfSome o (λ outcome. held.found.kind.0 ≡ outcome.result.kind))
    (sym (outcome_at-same buckets held.found rise ∙ is.there)) is.kind

some-at : {X : Type 0} (xs : List X) (at : ℕ) → at < length xs → is_some (slice_get xs at) ≡ true
some-at [] at lt = absurd (omega arith)
some-at (x ∷ xs) zero lt = refl
some-at (x ∷ xs) (suc at) lt = some-at xs at (omega arith)

pub held-kind : (database : Database) (buckets : List Bucket) (question : Question) (deep : Bool) (left start : ℕ)
    (held : Held)
    → database_of buckets ≡ database → IsStrictlySortedBy bucket_cmp buckets → start < length database.buckets
    → IfSome (slice_get buckets start) (λ bucket.
    IsHeld buckets (answer_within (database_of buckets) question deep left bucket.name) held)
    → IfSome (outcome_by_places database held.found) (λ outcome. held.found.kind.0 ≡ outcome.result.kind)
held-kind database buckets question deep left start held same rise lt is =
    let within : start < length (map heading_of buckets) =
    subst (λ (d : Database). start < length d.buckets) (sym same) lt in
    let own : start < length buckets = subst (λ n. start < n) (length-map buckets heading_of) within in
    subst (λ d. IfSome (outcome_by_places d held.found) (λ outcome. held.found.kind.0 ≡ outcome.result.kind)) same
    (kind-at buckets question deep left (slice_get buckets start) held rise (some-at buckets start own) is)

-- what is held is there
there-at : {X : Type 0} (of : X → Outcome) (xs : List X) (at : ℕ) (o : Option Outcome) → at < length xs
    → IfSome (slice_get xs at) (λ x. o ≡ Some (of x)) → is_some o ≡ true
there-at of [] at o lt is = absurd (omega arith)
there-at of (x ∷ xs) zero o lt is = ap is_some is
there-at of (x ∷ xs) (suc at) o lt is = there-at of xs at o (omega arith) is

pub held-there : (database : Database) (buckets : List Bucket) (question : Question) (deep : Bool) (left start : ℕ)
    (held : Held)
    → database_of buckets ≡ database → IsStrictlySortedBy bucket_cmp buckets → left ≡ length buckets
    → start < length database.buckets
    → IfSome (slice_get buckets start) (λ bucket.
    IsHeld buckets (answer_within (database_of buckets) question deep left bucket.name) held)
    → is_some (outcome_by_places database held.found) ≡ true
held-there database buckets question deep left start held same rise whole lt is =
    there-at (λ (heading : Heading). answer database heading.name question deep) database.buckets start
    (outcome_by_places database held.found) lt
    (held-answer database buckets question deep left start held same rise whole is)
