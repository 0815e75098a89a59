-- What an agent was asked and answered, call by call, and what follows from it.
use Rattle.std.specs.Prelude.{◌≡◌, ◌==◌, ℕ, Bool, if◌then◌else◌, List, [], ◌∷◌, Option, Some, None}
use Rattle.cynara_keys.specs.declared.results.Kind.{Kind}
use Rattle.wire_reading.specs.Frame.{spelling, with_sequence}
use Rattle.wire_fields.specs.declared.messages.Message.TheVariants.{Register, AgentAnswer}
use Rattle.client_core.specs.Agent.{Agent, fresh, cut, Turn, turn_of}
use Rattle.client_core.specs.Agent as does
use Rattle.client_core.specs.declared.steps.Step.{Step}
use Rattle.client_core.specs.declared.steps.Step.TheVariants as step

-- a call, and what it answered
pub data Call : Type 0 where
  Dials : Step → Call
  -- it answers the question of a number
  Answers : ℕ → Bool → Step → Call
  Comes : List ℕ → Step → Call
  Falls : Step → Call
  Leaves : Call

-- what a call does, as its contract says
abbrev pub Does : Call → Agent → Agent → Type 0
Does (Dials answer) old new = does.Dialled answer old new
Does (Answers number allowed answer) old new = does.Answers number allowed answer old new
Does (Comes bytes answer) old new = does.Comes bytes answer old new
Does (Falls answer) old new = does.Falls answer old new
Does Leaves old new = new ≡ cut old

-- These calls, the last one first, made an agent of this kind what it is.
abbrev pub Ran : Kind → List Call → Agent → Type 0
Ran kind [] agent = agent ≡ fresh kind
Ran kind (call ∷ calls) agent = (before : Agent) × Ran kind calls before × Does call before agent

-- ---- which question is open, by the calls alone, the last one first

abbrev pub closed_by : ℕ → Option ℕ → Option ℕ
closed_by number (Some asked) = if asked == number then None else Some asked
closed_by number None = None

abbrev pub opened : Turn → Option ℕ → Option ℕ
opened (Turn.Asks number) before = Some number
opened (Turn.Withdraws number) before = closed_by number before
opened other before = before

abbrev pub open_by_message : Step → Option ℕ → Option ℕ
open_by_message (step.Reply message) before = opened (turn_of message) before
open_by_message (step.Over fault) before = None
open_by_message answer before = before

abbrev pub open_by_answer : Step → Option ℕ → Option ℕ
open_by_answer step.Send before = None
open_by_answer (step.Over fault) before = None
open_by_answer answer before = before

abbrev pub open_by_dial : Step → Option ℕ → Option ℕ
open_by_dial step.NotNow before = before
open_by_dial answer before = None

-- the number of the question that was asked last on the connection that stands, and that was neither answered nor
-- withdrawn since
abbrev pub open_in : List Call → Option ℕ
open_in [] = None
open_in (Dials answer ∷ calls) = open_by_dial answer (open_in calls)
open_in (Answers number allowed answer ∷ calls) = open_by_answer answer (open_in calls)
open_in (Comes bytes answer ∷ calls) = open_by_message answer (open_in calls)
open_in (Falls answer ∷ calls) = None
open_in (Leaves ∷ calls) = None

-- ---- what follows

-- an answer goes out to the question that is open, by its number
pub record IsAnswer (number : ℕ) (allowed : Bool) (calls : List Call) (after : Agent) : Type 0 where
  pub asked : open_in calls ≡ Some number
  pub sequence : ℕ
  pub frame_is : after.frame ≡ spelling (with_sequence sequence (AgentAnswer number allowed))

-- what is to be sent: behind a dial the registration, and else the answer that is given
abbrev pub Means : Kind → Call → List Call → Agent → Type 0
Means kind (Dials step.Send) calls after = after.frame ≡ spelling (with_sequence 0 (Register kind))
Means kind (Answers number allowed step.Send) calls after = IsAnswer number allowed calls after
Means kind call calls after = Unit {0}
