-- Databases that agree on what concerns a question.
use Rattle.std.specs.Prelude.{◌≡◌, ℕ, Bool, List}
use Rattle.std.specs.List.{filter}
use Rattle.cynara_keys.specs.Key.{Question, key_matches}
use Rattle.cynara_keys.specs.declared.keys.Policy.{Policy}
use Rattle.bucket_store.specs.Database.{Database}
use Rattle.bucket_eval.specs.Evaluation.{policies_of, answer}

-- the policies of a bucket that match the question
abbrev pub matching : Database → Question → List ℕ → List Policy
matching database question name = filter (λ policy. key_matches policy.key question) (policies_of database name)

-- the same buckets with the same fallbacks, and in each bucket the same policies that match the question
pub record AgreeOn (question : Question) (one other : Database) : Type 0 where
  pub buckets : one.buckets ≡ other.buckets
  pub policies : (name : List ℕ) → matching one question name ≡ matching other question name

-- each bucket answers the question in the one as in the other
abbrev pub AnswerAlike : Question → Database → Database → Type 0
AnswerAlike question one other =
    (name : List ℕ) (deep : Bool) → answer one name question deep ≡ answer other name question deep
