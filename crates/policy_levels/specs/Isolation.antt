-- That a level is for its user alone.
use Rattle.std.specs.Prelude.{◌≡◌, ℕ, Bool, false, not, List, decimal}
use Rattle.std.specs.List.{filter}
use Rattle.cynara_keys.specs.Text.{same_text}
use Rattle.cynara_keys.specs.Field.{field_admits}
use Rattle.cynara_keys.specs.Key.{Question}
use Rattle.cynara_keys.specs.declared.fields.FilterField.TheVariants.{Exact}
use Rattle.bucket_store.specs.Database.{Database, Placed}
use Rattle.bucket_eval.specs.Evaluation.{answer}

-- whether the policy's user field is this one user
abbrev pub is_for : ℕ → Placed → Bool
is_for uid placed = field_admits (Exact (decimal uid)) placed.policy.key.user

-- the policies whose user field is not this one user's, in every bucket
abbrev pub rows_of_others : ℕ → Database → List Placed
rows_of_others uid database = filter (λ placed. not (is_for uid placed)) database.policies

-- each question of another user has the same answer in both, from every bucket, whether buckets are followed or not
abbrev pub AnswersOthersAlike : ℕ → Database → Database → Type 0
AnswersOthersAlike uid before after =
    (question : Question) → same_text question.user (decimal uid) ≡ false → (name : List ℕ) (deep : Bool)
    → answer after name question deep ≡ answer before name question deep

-- a change that is for one user alone
pub record ConcernsAlone (uid : ℕ) (before after : Database) : Type 0 where
  pub rows : rows_of_others uid after ≡ rows_of_others uid before
  pub answers : AnswersOthersAlike uid before after
