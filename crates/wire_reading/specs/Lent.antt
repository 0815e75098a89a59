-- Messages whose parts stand elsewhere.
use Rattle.std.specs.Prelude.{ℕ, Bool, if◌then◌else◌}
use Rattle.cynara_keys.specs.Key.{Question}
use Rattle.bucket_eval.specs.declared.lending.BorrowedAnswer.{BorrowedAnswer}
use Rattle.bucket_eval.specs.Found.{answer_of}
use Rattle.bucket_eval.specs.Lent.{outcome_lent}
use Rattle.wire_fields.specs.declared.messages.Message.{Message}
use Rattle.wire_fields.specs.declared.messages.Message.TheVariants.{Check, SimpleCheck, Judged}

-- a client asks, and an agent may be asked or not
abbrev pub asks : Bool → Question → Message
asks simple question = if simple then SimpleCheck question else Check question

-- the policies of the commit decide
abbrev pub judged : ℕ → BorrowedAnswer → Message
judged commit lent = Judged (record { commit = commit; answer = answer_of (outcome_lent lent) })
