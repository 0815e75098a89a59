-- What a database answers: the root bucket, with what the buckets below contribute.
use Rattle.std.specs.Prelude.{true}
use Rattle.cynara_keys.specs.Key.{Question}
use Rattle.bucket_store.specs.Database.{Database, root}
use Rattle.bucket_eval.specs.Evaluation.{Outcome, answer}
use Rattle.bucket_eval.specs.Found.{answer_of}
use Rattle.bucket_eval.specs.declared.answers.Answer.{Answer}

abbrev pub root_outcome : Database → Question → Outcome
root_outcome database question = answer database root question true

abbrev pub root_answer : Database → Question → Answer
root_answer database question = answer_of (root_outcome database question)
