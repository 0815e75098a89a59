-- What a client was told, was asked and answered, call by call, and what follows from it.
use Rattle.std.specs.Prelude.{◌≡◌, ◌≤◌, ℕ, zero, suc, max, Bool, true, false, List, [], ◌∷◌, ◌++◌, Contains}
use Rattle.std.specs.Prelude.{Option, Some, None}
use Rattle.bucket_eval.specs.declared.answers.Verdict.{Verdict}
use Rattle.cynara_keys.specs.Key.{Question}
use Rattle.cynara_keys.specs.PolicyResult.{is_agent}
use Rattle.answer_cache.specs.Cache.{Asked, asked_in, same_asked, newest}
use Rattle.answer_cache.specs.Limits.{most_entries}
use Rattle.wire_reading.specs.Frame.{spelling, with_sequence}
use Rattle.wire_reading.specs.Lent.{asks}
use Rattle.wire_reading.specs.Stream.{Hears}
use Rattle.wire_fields.specs.declared.messages.Framed.{Framed}
use Rattle.wire_fields.specs.declared.messages.Message.{Message}
use Rattle.wire_fields.specs.declared.operations.Heard.TheVariants.{Replies}
use Rattle.client_core.specs.Client.{Client, fresh}
use Rattle.client_core.specs.Asking as does
use Rattle.client_core.specs.declared.steps.Step.{Step}
use Rattle.client_core.specs.declared.steps.Step.TheVariants as step

-- a call, and what it answered
pub data Call : Type 0 where
  -- it is told of a commit that was acknowledged
  Tells : ℕ → Call
  -- it is asked, in a session, whether the use of a privilege is granted; with a flag no agent is asked
  Asks : List ℕ → Question → Bool → Step → Call
  -- its caller looked whether the connection is up
  Looks : Bool → Step → Call
  -- its caller dialled
  Dials : Step → Call
  -- these bytes came
  Comes : List ℕ → Step → Call
  -- the connection ended, or could not be made
  Falls : Step → Call
  -- its caller gave the connection up
  Leaves : Call

-- what a call does, as its contract says
abbrev pub Does : Call → Client → Client → Type 0
Does (Tells commit) old new = new ≡ does.told_of commit old
Does (Asks session question simple answer) old new = does.Asks session question simple answer old new
Does (Looks is_up answer) old new = does.Looks is_up answer old new
Does (Dials answer) old new = does.Dialled answer old new
Does (Comes bytes answer) old new = does.Comes bytes answer old new
Does (Falls answer) old new = does.Falls answer old new
Does Leaves old new = new ≡ does.left old

-- These calls, the last one first, made a client what it is.
abbrev pub Ran : List Call → Client → Type 0
Ran [] client = (entries : ℕ) × (client ≡ fresh entries)
Ran (call ∷ calls) client = (before : Client) × Ran calls before × Does call before client

-- ---- what was said, by the calls alone, the last one first

-- the greatest commit that it was told of
abbrev pub told_in : List Call → ℕ
told_in [] = 0
told_in (Tells commit ∷ calls) = max (told_in calls) commit
told_in (call ∷ calls) = told_in calls

-- a question in its session, and whether no agent is asked
pub record Put : Type 0 where
  pub asked : Asked
  pub simple : Bool

-- a question counts unless it had no place
abbrev pub put_by : Step → Put → Option Put → Option Put
put_by step.NotNow put before = before
put_by answer put before = Some put

-- the question that was asked last
abbrev pub question_in : List Call → Option Put
question_in [] = None
question_in (Asks session question simple answer ∷ calls) =
    put_by answer (record { asked = asked_in session question; simple = simple }) (question_in calls)
question_in (call ∷ calls) = question_in calls

-- bytes count unless they had no place
abbrev pub heard_by : Step → List ℕ → List ℕ → List ℕ
heard_by step.NotNow bytes before = before
heard_by step.BadCount bytes before = before
heard_by answer bytes before = before ++ bytes

-- nothing came yet where a frame is to be sent
abbrev pub unless_sent : Step → List ℕ → List ℕ
unless_sent step.Send before = []
unless_sent answer before = before

-- the bytes that came since the frame was to be sent
abbrev pub heard_in : List Call → List ℕ
heard_in [] = []
heard_in (Comes bytes answer ∷ calls) = heard_by answer bytes (heard_in calls)
heard_in (Looks is_up answer ∷ calls) = unless_sent answer (heard_in calls)
heard_in (Dials answer ∷ calls) = unless_sent answer (heard_in calls)
heard_in (call ∷ calls) = heard_in calls

-- The connection is to be closed, or was dialled anew: what was said on it is not counted any more.
abbrev pub unless_closed : Step → List (Asked × Verdict) → List (Asked × Verdict)
unless_closed step.Dial said = []
unless_closed (step.Over fault) said = []
unless_closed answer said = said

abbrev pub unless_dialled : Step → List (Asked × Verdict) → List (Asked × Verdict)
unless_dialled step.NotNow said = said
unless_dialled answer said = []

-- a verdict is the answer to the question that was asked last
abbrev pub and_verdict : Option Verdict → Option Put → List (Asked × Verdict) → List (Asked × Verdict)
and_verdict (Some verdict) (Some put) said = (put.asked, verdict) ∷ said
and_verdict verdict put said = said

-- what a call said to which bytes were given
abbrev pub with_answer : Step → Option Put → List (Asked × Verdict) → List (Asked × Verdict)
with_answer step.Dial put said = []
with_answer (step.Over fault) put said = []
with_answer (step.Reply message) put said = and_verdict (does.verdict_of message) put said
with_answer answer put said = said

-- the verdicts of the policies that the service gave on the connection that stands, each with its question
abbrev pub said_in : List Call → List (Asked × Verdict)
said_in [] = []
said_in (Tells commit ∷ calls) = said_in calls
said_in (Asks session question simple answer ∷ calls) = unless_closed answer (said_in calls)
said_in (Looks is_up answer ∷ calls) = unless_closed answer (said_in calls)
said_in (Dials answer ∷ calls) = unless_dialled answer (said_in calls)
said_in (Comes bytes answer ∷ calls) = with_answer answer (question_in calls) (said_in calls)
said_in (Falls answer ∷ calls) = []
said_in (Leaves ∷ calls) = []

-- ---- what follows

-- The caller just said that the connection is up. The verdict that was used last is the answer: the service gave it on
-- this connection, to this very question; it is no older than what the client was told, and no agent's.
pub record IsKeptAnswer (call : Call) (calls : List Call) (after : Client) : Type 0 where
  pub looked : call ≡ Looks true step.Kept
  pub verdict : Verdict
  pub is : newest after.cache ≡ Some verdict
  pub put : Put
  pub asked : question_in calls ≡ Some put
  pub entry : Asked
  pub said : Contains (said_in calls) (entry, verdict)
  pub same : same_asked put.asked entry ≡ true
  pub fresh : told_in calls ≤ verdict.commit
  pub policies : is_agent verdict.answer.kind.0 ≡ false

-- The bytes that came since the frame was to be sent are one frame, and nothing is behind it: a reply to a check, with
-- the sequence number of the frame that was sent, which is that of the question; and no older than what the client was
-- told.
pub record IsReply (call : Call) (calls : List Call) (client : Client) (message : Message) : Type 0 where
  pub bytes : List ℕ
  pub came : call ≡ Comes bytes (step.Reply message)
  pub put : Put
  pub asked : question_in calls ≡ Some put
  pub framed : Framed
  pub sent : client.frame ≡ spelling (with_sequence framed.sequence (asks put.simple put.asked.question))
  pub is : framed.message ≡ message
  pub heard : Hears Replies (heard_in (call ∷ calls)) (framed ∷ []) []
  pub commit : ℕ
  pub tells : does.commit_of message ≡ Some commit
  pub fresh : told_in calls ≤ commit

-- where a frame is to be sent, it is that of the question that was asked last
pub record IsSent (calls : List Call) (after : Client) : Type 0 where
  pub put : Put
  pub asked : question_in calls ≡ Some put
  pub frame : after.frame ≡ spelling (with_sequence after.sequence (asks put.simple put.asked.question))

-- what an answer means, behind these calls
abbrev pub Means : Step → Call → List Call → Client → Client → Type 0
Means step.Kept call calls before after = IsKeptAnswer call calls after
Means (step.Reply message) call calls before after = IsReply call calls before message
Means step.Send call calls before after = IsSent calls after
Means answer call calls before after = Unit {0}

abbrev pub answer_of : Call → Step
answer_of (Tells commit) = step.Idle
answer_of (Asks session question simple answer) = answer
answer_of (Looks is_up answer) = answer
answer_of (Dials answer) = answer
answer_of (Comes bytes answer) = answer
answer_of (Falls answer) = answer
answer_of Leaves = step.Idle
