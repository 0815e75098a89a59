-- The outcome that an answer with borrowed texts is.
use Rattle.std.specs.Option.{option_map}
use Rattle.bucket_eval.specs.Evaluation.{Outcome}
use Rattle.bucket_eval.specs.declared.lending.BorrowedAnswer.{BorrowedAnswer}

abbrev pub outcome_lent : BorrowedAnswer → Outcome
outcome_lent lent = record {
  result = lent.result.now;
  cause = record { bucket = lent.bucket.now; key = option_map (λ key. key.now) lent.key };
}
