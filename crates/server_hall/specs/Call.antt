-- The calls that are made on a hall, with their arguments and what they answered.
use Rattle.std.specs.Prelude.{ℕ, Bool, List, Result}
use Rattle.cynara_keys.specs.Key.{Question}
use Rattle.cynara_keys.specs.declared.results.Kind.{Kind}
use Rattle.live_roll.specs.declared.answers.Left.{Left}
use Rattle.agent_table.specs.declared.refusals.RegisterRefusal.{RegisterRefusal}
use Rattle.agent_table.specs.declared.refusals.AnswerRefusal.{AnswerRefusal}
use Rattle.agent_table.specs.declared.table.Asked.{Asked}
use Rattle.agent_table.specs.declared.table.Taken.{Taken}
use Rattle.server_hall.specs.declared.refusals.AskRefusal.{AskRefusal}
use Rattle.server_hall.specs.declared.refusals.NextRefusal.{NextRefusal}

-- what asking an agent gives: the number of the question and its answer, or why there is none
abbrev pub AskResult : Type 0
AskResult = Result (ℕ × Taken) AskRefusal

-- a question was put to the agent of a kind
pub record AskMade : Type 0 where
  pub kind : Kind
  pub question : Question
  pub metadata : List ℕ
  pub result : AskResult

-- a connection left the place of a seat, which had entered at this commit
pub record LeaveMade : Type 0 where
  pub seat : ℕ
  pub entered : ℕ
  pub left : Left

-- an agent came for a kind
pub record JoinMade : Type 0 where
  pub kind : Kind
  pub result : Result (Unit {0}) RegisterRefusal

-- the agent of a kind asked for its next question
pub record NextMade : Type 0 where
  pub kind : Kind
  pub result : Result Asked NextRefusal

-- the agent of a kind answered the question of a number
pub record AnswerMade : Type 0 where
  pub kind : Kind
  pub number : ℕ
  pub allowed : Bool
  pub result : Result (Unit {0}) AnswerRefusal
