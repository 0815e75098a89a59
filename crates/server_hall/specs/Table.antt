-- What the calls of a hall make of the table of questions to agents.
use Rattle.std.specs.Prelude.{◌≡◌, ℕ, Bool, true, false, List, Option, Some, None, Result, Ok, Err}
use Rattle.std.specs.Option.{option_map}
use Rattle.agent_table.specs.OpenQuestion.{numbered, first_waiting}
use Rattle.agent_table.specs.declared.open_questions.OpenQuestion.{OpenQuestion}
use Rattle.agent_table.specs.Table.{Table, after_next}
use Rattle.agent_table.specs.Refusals.{RefusesQuestion, told}
use Rattle.agent_table.specs.declared.refusals.PutRefusal.{PutRefusal}
use Rattle.agent_table.specs.declared.refusals.PutRefusal.TheVariants.{Stopped as NoneIsPut}
use Rattle.agent_table.specs.declared.refusals.TakeRefusal.{TakeRefusal}
use Rattle.agent_table.specs.declared.refusals.TakeRefusal.TheVariants.{UnknownNumber, AgentGone}
use Rattle.agent_table.specs.declared.refusals.TakeRefusal.TheVariants.{Stopped as NoneIsTaken}
use Rattle.agent_table.specs.declared.refusals.TakeRefusal.TheVariants.{NotYet as NoAnswer}
use Rattle.agent_table.specs.declared.table.Asked.{Asked}
use Rattle.agent_table.specs.declared.table.Taken.{Taken}
use Rattle.server_hall.specs.declared.refusals.AskRefusal.{AskRefusal}
use Rattle.server_hall.specs.declared.refusals.AskRefusal.TheVariants.{Put, Gone, Stopped, Lost}
use Rattle.server_hall.specs.declared.refusals.NextRefusal.{NextRefusal}
use Rattle.server_hall.specs.declared.refusals.NextRefusal.TheVariants.{Stopped as NoneIsGiven, Memory as NoRoom}
use Rattle.server_hall.specs.declared.refusals.NextRefusal.TheVariants.{Left as AgentLeft}
use Rattle.server_hall.specs.Tally.{IsNamedForItself}
use Rattle.server_hall.specs.Found.{IsOfTheTable}
use Rattle.server_hall.specs.declared.table_calls.Awaited.{Awaited}
use Rattle.server_hall.specs.declared.table_calls.Awaited.TheVariants.{Answered, Refused, NotYet}

-- ---- asking

-- the refusal names the fault of the question, and memory is wanting only where there is none
abbrev pub RefusesAsk : Option PutRefusal → AskRefusal → Type 0
RefusesAsk fault (Put refusal) = RefusesQuestion refusal fault
RefusesAsk fault Stopped = fault ≡ Some NoneIsPut
RefusesAsk fault refusal = ⊥

-- what whoever waits for the answer is told: a question that the table has no more of is lost
abbrev pub awaited : ℕ → Result Taken TakeRefusal → Awaited
awaited number (Ok taken) = Answered taken
awaited number (Err (UnknownNumber other)) = Refused (Lost number)
awaited number (Err (AgentGone other)) = Refused (Gone number)
awaited number (Err NoneIsTaken) = Refused Stopped
awaited number (Err NoAnswer) = NotYet

-- the question is open no more, unless there is no answer yet
abbrev pub IsGone : ℕ → Awaited → List OpenQuestion → Type 0
IsGone number NotYet questions = Unit {0}
IsGone number awaited questions = numbered number questions ≡ None

-- a refusal that is told so is named for itself, and is none of a link that is down
abbrev pub IsNamed : Awaited → Type 0
IsNamed (Refused refusal) = IsNamedForItself refusal × IsOfTheTable refusal
IsNamed other = Unit {0}

-- ---- being asked

-- the first question that waits for the agent of the kind, if one does; a stopped table gives none
abbrev pub GivesNext : ℕ → Table → Result (Option Asked) NextRefusal → Type 0
GivesNext kind table (Ok asked) = asked ≡ option_map told (first_waiting kind table.questions)
GivesNext kind table (Err refusal) = Unit {0}

-- why a table gives no question: it is stopped, and else memory was wanting
abbrev pub RefusesNext : Bool → NextRefusal → Type 0
RefusesNext stopped NoneIsGiven = stopped ≡ true
RefusesNext stopped (NoRoom error) = stopped ≡ false
RefusesNext stopped AgentLeft = ⊥

abbrev pub table_after_next : {E : Type 0} → ℕ → Result (Option Asked) E → Table → Table
table_after_next kind (Ok asked) table = after_next (first_waiting kind table.questions) table
table_after_next kind (Err refusal) table = table
