-- Where an answer was found, by places in a database, and how it is described.
use Rattle.std.specs.Prelude.{ℕ, Option, Some, None, slice_get}
use Rattle.std.specs.Option.{option_map}
use Rattle.std.specs.Prelude.{option_and_then}
use Rattle.cynara_keys.specs.Field.{field_text}
use Rattle.cynara_keys.specs.Key.{Key}
use Rattle.bucket_store.specs.Database.{Database, Heading}
use Rattle.bucket_eval.specs.Evaluation.{Outcome, policies_of}
use Rattle.bucket_eval.specs.declared.answers.Found.{Found}
use Rattle.bucket_eval.specs.declared.answers.Row.{Row}
use Rattle.bucket_eval.specs.declared.answers.Answer.{Answer}

-- the outcome of a bucket's fallback, or of its policy at the place
abbrev pub outcome_in : Database → Option ℕ → Heading → Option Outcome
outcome_in database None heading =
    Some (record { result = heading.fallback; cause = record { bucket = heading.name; key = None } })
outcome_in database (Some place) heading =
    option_map (λ policy. record {
      result = policy.result;
      cause = record { bucket = heading.name; key = Some policy.key };
    })
    (slice_get (policies_of database heading.name) place)

-- the outcome that was found, if the places are in the database
abbrev pub outcome_at : Database → Found → Option Outcome
outcome_at database found = option_and_then (outcome_in database found.policy) (slice_get database.buckets found.bucket)

-- the texts of a key
abbrev pub row_of : Key → Row
row_of key = record { client = field_text key.client; user = field_text key.user; privilege = field_text key.privilege }

abbrev pub answer_of : Outcome → Answer
answer_of outcome = record {
  kind = record { 0 = outcome.result.kind };
  metadata = outcome.result.metadata;
  cause = record { bucket = outcome.cause.bucket; row = option_map row_of outcome.cause.key };
}
