-- The root bucket is the first.
use Rattle.std.proofs.Common.{◌≡◌, ◌<◌, ◌||◌, ℕ, Bool, true, false, List, [], ◌∷◌, length, map, slice_get, Option, None, Some, IfSome}
use Rattle.std.proofs.Common.{refl, sym, ap, ◌∙◌, subst, arith}
use Rattle.std.specs.declared.cmp.Ordering.TheVariants.{Less}
use Rattle.std.specs.List.{AllByRecursion, list_any}
use Rattle.std.specs.List.Sorted.{IsStrictlySortedBy}
use Rattle.std.specs.Option.{option_map}
use Rattle.std.proofs.lemmas.Bool.{false≢true}
use Rattle.std.proofs.lemmas.List.{length-map}
use Rattle.std.proofs.lemmas.Option.{slice_get-map}
use Rattle.cynara_keys.specs.Key.{Question}
use Rattle.cynara_keys.specs.Text.{same_text, text_cmp}
use Rattle.cynara_keys.proofs.Order.{same_text-≡}
use Rattle.bucket_store.specs.Bucket.{Bucket}
use Rattle.bucket_store.specs.Database.{Database, Heading, database_of, heading_of, root}
use Rattle.bucket_store.specs.Order.{heading_cmp}
use Rattle.bucket_store.specs.WellFormed.{IsKept, IsWellFormed}
use Rattle.bucket_eval.specs.Evaluation.{answer, answer_within}
use Rattle.bucket_eval.specs.Found.{outcome_at as outcome_by_places}
use Rattle.bucket_eval.specs.declared.answers.Found.{Found}
use Rattle.bucket_eval.specs.parts.Buckets.{outcome_at}
use Rattle.bucket_eval.proofs.Places.{outcome_at-same}

-- nothing comes before the empty text
before-empty : (name other : List ℕ) → other ≡ [] → text_cmp name other ≡ Less → name ≡ []
before-empty [] other empty less = refl
before-empty (x ∷ name) other empty less =
    let never : text_cmp (x ∷ name) [] ≡ Less = ap (text_cmp (x ∷ name)) (sym empty) ∙ less in cc

root-behind : (name : List ℕ) (headings : List Heading)
    → AllByRecursion (λ (later : Heading). text_cmp name later.name ≡ Less) headings
    → list_any (λ (heading : Heading). same_text heading.name []) headings ≡ true → name ≡ []
root-behind name [] less any = absurd (false≢true any)
root-behind name (heading ∷ headings) less any =
    here (same_text heading.name []) refl any (root-behind name headings less.1)
  where
    here : (is_root : Bool) → same_text heading.name [] ≡ is_root
        → (is_root || list_any (λ (other : Heading). same_text other.name []) headings) ≡ true
        → (list_any (λ (other : Heading). same_text other.name []) headings ≡ true → name ≡ []) → name ≡ []
    here true is found rest = before-empty name heading.name (same_text-≡ heading.name [] is) less.0
    here false is found rest = rest found

root-named : (first : Heading) (headings : List Heading) (is_root : Bool) → same_text first.name [] ≡ is_root
    → AllByRecursion (λ (later : Heading). text_cmp first.name later.name ≡ Less) headings
    → (is_root || list_any (λ (heading : Heading). same_text heading.name []) headings) ≡ true → first.name ≡ []
root-named first headings true is less any = same_text-≡ first.name [] is
root-named first headings false is less any = root-behind first.name headings less any

-- the first bucket is the root
root-first : (headings : List Heading) → IsStrictlySortedBy heading_cmp headings
    → list_any (λ (heading : Heading). same_text heading.name []) headings ≡ true
    → (heading : Heading) × (slice_get headings 0 ≡ Some heading) × (heading.name ≡ []) × (0 < length headings)
unfolding IsStrictlySortedBy
root-first [] rise any = absurd (false≢true any)
root-first (first ∷ headings) rise any =
    (first, refl, root-named first headings (same_text first.name []) refl rise.0 any, omega arith)

-- what the first bucket answers is the answer from the root
pub root-heading : (database : Database) (question : Question) (found : Found) → IsWellFormed database
    → IfSome (slice_get database.buckets 0) (λ heading.
    outcome_by_places database found ≡ Some (answer database heading.name question true))
    → outcome_by_places database found ≡ Some (answer database root question true)
root-heading database question found formed is =
    let first = root-first database.buckets formed.names_rise formed.sound.root in
    subst (λ o. IfSome o (λ (heading : Heading).
    outcome_by_places database found ≡ Some (answer database heading.name question true))) first.1 is
    ∙ ap (λ name. Some (answer database name question true)) first.2

pub root-there : (database : Database) → IsWellFormed database → 0 < length database.buckets
root-there database formed = (root-first database.buckets formed.names_rise formed.sound.root).3

-- the same by places in the list of buckets
pub root-found : (database : Database) (buckets : List Bucket) (question : Question) (found : Found)
    → database_of buckets ≡ database → IsKept buckets → IsWellFormed database
    → ((bucket : Bucket) → slice_get buckets 0 ≡ Some bucket
    → outcome_at buckets found ≡ Some (answer_within (database_of buckets) question true (length buckets) bucket.name))
    → outcome_by_places database found ≡ Some (answer database root question true)
root-found database buckets question found same kept formed is =
    root-heading database question found formed
    (subst (λ (d : Database). IfSome (slice_get d.buckets 0) (λ heading.
    outcome_by_places d found ≡ Some (answer d heading.name question true))) same (by-case (slice_get buckets 0) refl))
  where
    by-case : (here : Option Bucket) → slice_get buckets 0 ≡ here
        → IfSome (slice_get (map heading_of buckets) 0) (λ heading.
        outcome_by_places (database_of buckets) found ≡ Some (answer (database_of buckets) heading.name question true))
    by-case None there =
        subst (λ o. IfSome o (λ (heading : Heading).
        outcome_by_places (database_of buckets) found ≡ Some (answer (database_of buckets) heading.name question true)))
        (sym (slice_get-map heading_of buckets 0 ∙ ap (option_map heading_of) there)) tt
    by-case (Some bucket) there =
        subst (λ o. IfSome o (λ (heading : Heading).
        outcome_by_places (database_of buckets) found ≡ Some (answer (database_of buckets) heading.name question true)))
        (sym (slice_get-map heading_of buckets 0 ∙ ap (option_map heading_of) there))
        (outcome_at-same buckets found kept.names_rise ∙ is bucket there
        ∙ ap (λ n. Some (answer_within (database_of buckets) question true n bucket.name))
        (sym (length-map buckets heading_of)))
