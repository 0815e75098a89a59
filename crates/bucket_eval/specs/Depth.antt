-- A greater bound on depth changes no answer.
use Rattle.std.specs.Prelude.{◌≡◌, ◌≤◌, ℕ, Bool, true, List, length}
use Rattle.cynara_keys.specs.Key.{Question}
use Rattle.bucket_store.specs.Database.{Database, has_bucket}
use Rattle.bucket_eval.specs.Evaluation.{answer, answer_within}

-- what a bucket that is there answers, with less than so many policies in turn, where these are not fewer than the
-- buckets
abbrev pub DepthChangesNothing : Database → Type 0
DepthChangesNothing database =
    (name : List ℕ) (question : Question) (deep : Bool) (most : ℕ) → has_bucket name database ≡ true
    → length database.buckets ≤ most
    → answer_within database question deep most name ≡ answer database name question deep
