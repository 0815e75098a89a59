-- A database without the policies that do not match a question answers it as the whole one does.
use Rattle.std.proofs.Common.{◌≡◌, ◌==◌, ℕ, Bool, true, false, ◌&&◌, List, map, refl, sym, ap, subst, ◌∙◌}
use Rattle.std.specs.List.{filter, list_any}
use Rattle.cynara_keys.specs.Key.{Question, key_matches}
use Rattle.cynara_keys.specs.PolicyResult.{allow}
use Rattle.cynara_keys.specs.Text.{same_text}
use Rattle.bucket_store.specs.Bucket.{Bucket}
use Rattle.bucket_store.specs.Database.{Database, Placed, database_of, root}
use Rattle.bucket_store.specs.WellFormed.{IsKept}
use Rattle.bucket_store.proofs.Kept.{keep, headings-keep, flat-keep, Kept-keep}
use Rattle.bucket_eval.specs.Evaluation.{Outcome, answer}
use Rattle.evaluation_laws.specs.Agreement.{AgreeOn}
use Rattle.evaluation_laws.proofs.Alike.{answers-alike}
use Rattle.evaluation_laws.proofs.Matching.{concerns, filter-both, matching-chosen}
use Rattle.effective_audit.specs.Audit.{asked, allows}
use Rattle.effective_audit.specs.parts.Narrowing.{place_number, narrow_of, chosen}
use Rattle.effective_audit.proofs.Choice.{passes, filter-same, buckets-chosen}

twice : (a b : Bool) → a && (b && a) ≡ b && a
twice true b = refl
twice false true = refl
twice false false = refl

module _ (question : Question) (buckets : List Bucket) where
  abbrev few : List Bucket
  few = map (keep (passes question)) buckets

  agree : AgreeOn question (database_of few) (database_of buckets)
  agree = record {
    buckets = headings-keep (passes question) buckets;
    policies = λ name.
        matching-chosen (database_of few) question name
        ∙ ap (map (λ placed. placed.policy))
        (ap (filter (concerns name question)) (flat-keep (passes question) buckets)
        ∙ filter-both (passes question) (concerns name question) (database_of buckets).policies
        ∙ filter-same (λ placed. passes question placed && concerns name question placed) (concerns name question)
        (λ placed. twice (key_matches placed.policy.key question) (same_text placed.bucket name)) (database_of buckets).policies)
        ∙ sym (matching-chosen (database_of buckets) question name);
  }

  pub few-answer : (name : List ℕ) (deep : Bool) → answer (database_of few) name question deep ≡ answer (database_of buckets) name question deep
  few-answer name deep = answers-alike question (database_of few) (database_of buckets) agree name deep

-- the buckets with the policies whose rows are taken
module _ (privileges : List (List ℕ)) (client user privilege : List ℕ) (known : list_any (same_text privilege) privileges ≡ true)
    (buckets taken : List Bucket)
    (made : taken ≡ map (chosen (place_number privileges privilege)) (map (narrow_of privileges client user) buckets)) where
  abbrev question : Question
  question = asked user client privilege

  taken_are : taken ≡ map (keep (passes question)) buckets
  taken_are = made ∙ buckets-chosen privileges client user privilege known buckets

  pub taken-kept : IsKept buckets → IsKept taken
  taken-kept kept = subst IsKept (sym taken_are) (Kept-keep (passes question) buckets kept)

  pub taken-allow : ((answer (database_of taken) root question true).result.kind == allow) ≡ allows (database_of buckets) user client privilege
  taken-allow =
      ap (λ list. (answer (database_of list) root question true).result.kind == allow) taken_are
      ∙ ap (λ (outcome : Outcome). outcome.result.kind == allow) (few-answer question buckets root true)
