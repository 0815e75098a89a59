-- What an administrator sent and was answered, call by call, and what follows from it.
use Rattle.std.specs.Prelude.{◌≡◌, ℕ, suc, List, [], ◌∷◌, ◌++◌, map, length, Option, Some, None, Result}
use Rattle.wire_reading.specs.Frame.{spelling}
use Rattle.wire_reading.specs.Hearing.{IsHeard}
use Rattle.wire_reading.specs.Stream.{Hears}
use Rattle.wire_fields.specs.declared.messages.Framed.{Framed}
use Rattle.wire_fields.specs.declared.messages.Message.{Message}
use Rattle.wire_fields.specs.declared.operations.Heard.TheVariants.{AtAdmin, Replies}
use Rattle.client_core.specs.Admin.{Admin, fresh, cut, raw_frame}
use Rattle.client_core.specs.Admin as does
use Rattle.client_core.specs.AdminReplies.{wanted_of, next_of}
use Rattle.client_core.specs.ClientCalls.{heard_by, unless_sent}
use Rattle.client_core.specs.declared.steps.Step.{Step}
use Rattle.client_core.specs.declared.steps.Step.TheVariants as step
use Rattle.client_core.specs.declared.wanted.Wanted.{Wanted}
use Rattle.client_core.specs.declared.wanted.Next.{Next}
use Rattle.client_core.specs.declared.wanted.Next.TheVariants as next

-- a call, and what it answered
pub data Call : Type 0 where
  -- it is to send a message: the number of an operation, and the bytes of its fields
  Sends : ℕ → List ℕ → Step → Call
  -- it is to send a message, which is given by itself
  Says : Message → Result Step ℕ → Call
  Dials : Step → Call
  Comes : List ℕ → Step → Call
  Falls : Step → Call
  Leaves : Call

-- what a call does, as its contract says
abbrev pub Does : Call → Admin → Admin → Type 0
Does (Sends operation fields answer) old new = does.Sends operation fields answer old new
Does (Says message answer) old new = does.Says message answer old new
Does (Dials answer) old new = does.Dialled answer old new
Does (Comes bytes answer) old new = does.Comes bytes answer old new
Does (Falls answer) old new = does.Falls answer old new
Does Leaves old new = new ≡ cut old

-- These calls, the last one first, made an administrator what it is.
abbrev pub Ran : List Call → Admin → Type 0
Ran [] admin = admin ≡ fresh
Ran (call ∷ calls) admin = (before : Admin) × Ran calls before × Does call before admin

-- ---- what was said, by the calls alone, the last one first

-- a message, by the number of its operation and the bytes of its fields, or by itself
pub data Put : Type 0 where
  Bytes : ℕ → List ℕ → Put
  Whole : Message → Put

-- a message counts where it is to be sent
abbrev pub put_by : Step → Put → Option Put → Option Put
put_by step.Dial put before = Some put
put_by step.Send put before = Some put
put_by answer put before = before

-- the message that was to be sent last
abbrev pub message_in : List Call → Option Put
message_in [] = None
message_in (Sends operation fields answer ∷ calls) = put_by answer (Put.Bytes operation fields) (message_in calls)
message_in (Says message answer ∷ calls) = put_by (does.step_of answer) (Put.Whole message) (message_in calls)
message_in (call ∷ calls) = message_in calls

-- the bytes that came since its frame was to be sent
abbrev pub heard_in : List Call → List ℕ
heard_in [] = []
heard_in (Sends operation fields answer ∷ calls) = unless_sent answer (heard_in calls)
heard_in (Says message answer ∷ calls) = unless_sent (does.step_of answer) (heard_in calls)
heard_in (Dials answer ∷ calls) = unless_sent answer (heard_in calls)
heard_in (Comes bytes answer ∷ calls) = heard_by answer bytes (heard_in calls)
heard_in (call ∷ calls) = heard_in calls

abbrev pub and_given : Step → List Message → List Message
and_given step.Send given = []
and_given (step.Row message) given = given ++ message ∷ []
and_given (step.Reply message) given = given ++ message ∷ []
and_given answer given = given

-- the replies that were given since then
abbrev pub given_in : List Call → List Message
given_in [] = []
given_in (Sends operation fields answer ∷ calls) = and_given answer (given_in calls)
given_in (Says message answer ∷ calls) = and_given (does.step_of answer) (given_in calls)
given_in (Dials answer ∷ calls) = and_given answer (given_in calls)
given_in (Comes bytes answer ∷ calls) = and_given answer (given_in calls)
given_in (call ∷ calls) = given_in calls

-- ---- what follows

-- the service hears it, and its frame is spelled of these bytes
pub record IsRead (operation : ℕ) (fields : List ℕ) (request : Framed) : Type 0 where
  pub heard : IsHeard AtAdmin request
  pub sequence : ℕ
  pub raw : raw_frame sequence operation fields ≡ spelling request

-- it is the message that was given
abbrev pub IsOf : Put → Framed → Type 0
IsOf (Put.Bytes operation fields) request = IsRead operation fields request
IsOf (Put.Whole message) request = request.message ≡ message

-- the message that was to be sent, whose frame these bytes are
pub record IsRequest (put : Option Put) (bytes : List ℕ) (request : Framed) : Type 0 where
  pub message : Put
  pub put_is : put ≡ Some message
  pub is_of : IsOf message request
  pub frame_is : bytes ≡ spelling request

-- where a frame is to be sent, it is that of the message that was to be sent last
pub record IsSent (calls : List Call) (after : Admin) : Type 0 where
  pub request : Framed
  pub is : IsRequest (message_in calls) after.frame request

-- behind so many rows these are further ones
abbrev pub AreRows : Wanted → ℕ → ℕ → List Framed → Type 0
AreRows wanted sequence before [] = Unit {0}
AreRows wanted sequence before (framed ∷ rows) =
    (next_of wanted sequence before framed ≡ next.More) × AreRows wanted sequence (suc before) rows

-- The bytes that came since the frame was to be sent are the frames of these replies and no more; they are all that
-- were given; each before this one is a row, with the number of the frame that was sent; and this one follows so.
pub record IsReply (call : Call) (calls : List Call) (before : Admin) (message : Message)
    (follows : Next) : Type 0 where
  pub request : Framed
  pub sent : IsRequest (message_in calls) before.frame request
  pub rows : List Framed
  pub last : Framed
  pub is : last.message ≡ message
  pub heard : Hears Replies (heard_in (call ∷ calls)) (rows ++ last ∷ []) []
  pub given : given_in (call ∷ calls) ≡ map (λ framed. framed.message) (rows ++ last ∷ [])
  pub are_rows : AreRows (wanted_of request.message) request.sequence 0 rows
  pub last_follows : next_of (wanted_of request.message) request.sequence (length rows) last ≡ follows

-- what an answer means, behind these calls
abbrev pub Means : Step → Call → List Call → Admin → Admin → Type 0
Means step.Send call calls before after = IsSent (call ∷ calls) after
Means (step.Row message) call calls before after = IsReply call calls before message next.More
Means (step.Reply message) call calls before after = IsReply call calls before message next.Whole
Means answer call calls before after = Unit {0}

abbrev pub answer_of : Call → Step
answer_of (Sends operation fields answer) = answer
answer_of (Says message answer) = does.step_of answer
answer_of (Dials answer) = answer
answer_of (Comes bytes answer) = answer
answer_of (Falls answer) = answer
answer_of Leaves = step.Idle
