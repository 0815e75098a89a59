-- What `admin` reads, sends and says, and how it ends.
use Rattle.std.specs.Prelude.{◌≡◌, ◌⊎◌, ◌≤◌, ℕ, List, [], ◌∷◌, ◌++◌, length, map, Option, Some, None, Result, Ok, Err}
use Rattle.std.specs.List.{flat_map}
use Rattle.std.specs.Option.{option_to_list}
use Rattle.desk_ports.specs.Faults.{next_count}
use Rattle.link_ports.specs.Traffic.{Traffic}
use Rattle.link_ports.specs.LinkMarks.{LinkMarks}
use Rattle.link_ports.specs.NetCounts.{MayCountFailure}
use Rattle.script_words.specs.declared.places.Place.TheVariants.{Admin}
use Rattle.line_script.specs.declared.steps.Step.{Step}
use Rattle.script_replies.specs.Reading.{ReadsLines, ReadsAllLines, ReadsWhole, MeetsWrongLine}
use Rattle.script_replies.specs.Script.{read_script, wrong_line}
use Rattle.wire_fields.specs.declared.messages.Message.{Message}
use Rattle.client_connection.specs.Giving.{GivesBackAny}
use Rattle.client_connection.specs.declared.faults.ReplyFault.{ReplyFault}
use Rattle.admin_client.specs.Sending.{State, Sends}
use Rattle.admin_client.specs.declared.refusals.AdminRefusal.{AdminRefusal}
use Rattle.admin_client.specs.declared.refusals.AdminRefusal.TheVariants as refusal
use Rattle.run_endings.specs.Outside.{SourceSeen, HadInput}
use Rattle.run_endings.specs.Saying.{Said}
use Rattle.run_endings.specs.declared.endings.Ending.{Ending}
use Rattle.run_endings.specs.declared.endings.Ending.TheVariants.{Done, Memory, Line, Source, Sink, Net, Reply, TooLong}
use Rattle.admin_runs.specs.StepMessage.{message_for}
use Rattle.admin_runs.specs.ReplyLine.{replies_text}

-- ---- what was read

-- the messages of steps, in order
abbrev pub messages_of : List Step → List Message
messages_of steps = flat_map (λ step. option_to_list (message_for step)) steps

-- The input, what is left of it, and the steps that were read, for each way in which the run ends.
abbrev pub HasRead : Ending → List ℕ → List ℕ → List Step → Type 0
HasRead Done input rest steps = ReadsWhole Admin steps input rest
HasRead (Line number) input rest steps = MeetsWrongLine Admin number steps input rest
HasRead Source input rest steps = ReadsAllLines Admin input rest steps
HasRead Memory input rest steps = ReadsLines Admin input rest steps
HasRead Sink input rest steps = ReadsLines Admin input rest steps
HasRead Net input rest steps = ReadsLines Admin input rest steps
HasRead Reply input rest steps = ReadsLines Admin input rest steps
HasRead (TooLong size) input rest steps = ReadsLines Admin input rest steps
HasRead ending input rest steps = ⊥

-- ---- what was sent

-- a message, and the replies to it
pub record Exchange : Type 0 where
  pub message : Message
  pub replies : List Message

abbrev pub text_of : Exchange → List ℕ
text_of exchange = replies_text exchange.message exchange.replies

-- the lines of the answers
abbrev pub texts_of : List Exchange → List ℕ
texts_of exchanges = flat_map text_of exchanges

-- how a run ends at a message without an answer
abbrev pub ending_of : AdminRefusal → Ending
ending_of refusal.Unavailable = Net
ending_of (refusal.BadReply fault) = Reply
ending_of (refusal.TooLong size) = TooLong size
ending_of (refusal.Memory error) = Memory

-- No message was sent while a byte of an answer to one before it was still to be written.
abbrev pub AreInTurn : List Exchange → List ℕ → Type 0
AreInTurn answered written =
    (front : List Exchange) (last : Exchange) → answered ≡ front ++ last ∷ [] → length (texts_of front) ≤ length written

module _ {N L : Type 0} (link_faults : L → ℕ) (marks : L → LinkMarks) (traffic : L → Option Traffic)
    (faults dials : N → ℕ) (given_back : N → Option (List L)) where
  -- an administrator's client sends a message once at most, and hears this
  abbrev pub SendsOnce : Message → Result (List Message) AdminRefusal → State N L → State N L → Type 0
  SendsOnce message result old new = Sends link_faults marks traffic faults dials given_back message result old new

  -- these messages were sent one after the other, and each had these replies
  abbrev pub AreExchanged : List Exchange → State N L → State N L → Type 0
  AreExchanged [] old new = new ≡ old
  AreExchanged (exchange ∷ exchanges) old new =
      (between : State N L) × SendsOnce exchange.message (Ok exchange.replies) old between
      × AreExchanged exchanges between new

  -- One more message was due behind these, and had no answer.
  pub record IsUnanswered (ending : Ending) (last : List Message) (old new : State N L) : Type 0 where
    pub message : Message
    pub why : AdminRefusal
    pub last_is : last ≡ message ∷ []
    pub sent : SendsOnce message (Err why) old new
    pub ending_is : ending ≡ ending_of why

  -- One more message had an answer, and no memory was found for its lines.
  pub record IsUnsaid (last : List Message) (old new : State N L) : Type 0 where
    pub message : Message
    pub replies : List Message
    pub last_is : last ≡ message ∷ []
    pub sent : SendsOnce message (Ok replies) old new

  -- nothing more was sent
  abbrev pub IsNone : List Message → State N L → State N L → Type 0
  IsNone last old new = (last ≡ []) × (new ≡ old)

  -- What was sent behind the messages whose answers were due: nothing more, or one that ended the run.
  abbrev pub EndsSending : Ending → List Message → State N L → State N L → Type 0
  EndsSending Done last old new = IsNone last old new
  EndsSending (Line number) last old new = IsNone last old new
  EndsSending Source last old new = IsNone last old new
  EndsSending Sink last old new = IsNone last old new
  EndsSending Memory last old new = IsUnanswered Memory last old new ⊎ (IsUnsaid last old new ⊎ IsNone last old new)
  EndsSending ending last old new = IsUnanswered ending last old new

  -- The messages of the steps that were read: each was sent once and answered, in order, but for a last one. The
  -- answers are due.
  pub record SendsScript (said : Said) (ending : Ending) (source source_after : SourceSeen)
      (old new : State N L) : Type 0 where
    pub input : List ℕ
    pub rest : List ℕ
    pub steps : List Step
    pub answered : List Exchange
    pub last : List Message
    pub between : State N L
    pub had : HadInput source.left source_after.left input rest
    pub read : HasRead ending input rest steps
    pub sent : messages_of steps ≡ map (λ exchange. exchange.message) answered ++ last
    pub exchanged : AreExchanged answered old between
    pub ends : EndsSending ending last between new
    pub due : said.due ≡ texts_of answered
    pub in_turn : AreInTurn answered said.written

  -- The script was sent by a client without a link that numbers its first message 0, whose link was given back at the
  -- end.
  pub record RunsAdmin (said : Said) (ending : Ending) (source source_after : SourceSeen)
      (before after : N) : Type 0 where
    pub client : State N L
    pub script : SendsScript said ending source source_after
        (record { dial = before; link = None; sequence = 0 }) client
    pub given : GivesBackAny faults dials given_back link_faults marks client.link client.dial after

  -- ---- a run that no failing call stops

  -- one more message was due, and this is why it has no answer
  abbrev pub HasNoAnswer : AdminRefusal → List Message → State N L → State N L → Type 0
  HasNoAnswer why last old new = (message : Message) × (last ≡ message ∷ []) × SendsOnce message (Err why) old new

  -- Behind the messages that were answered the run ends since the input has no further line, or a wrong one; or since
  -- what came in reply to one more message is none, or its frame would be too long; or for want of memory.
  abbrev pub EndsUnfailed : Ending → List ℕ → List Message → State N L → State N L → Type 0
  EndsUnfailed Done input last old new = (wrong_line (read_script Admin input) ≡ None) × IsNone last old new
  EndsUnfailed (Line number) input last old new =
      (wrong_line (read_script Admin input) ≡ Some number) × IsNone last old new
  EndsUnfailed Reply input last old new = (fault : ReplyFault) × HasNoAnswer (refusal.BadReply fault) last old new
  EndsUnfailed (TooLong size) input last old new = HasNoAnswer (refusal.TooLong size) last old new
  EndsUnfailed Memory input last old new = Unit {0}
  EndsUnfailed ending input last old new = ⊥

  -- what such a run does
  abbrev pub CompletesAdmin : Said → Ending → SourceSeen → SourceSeen → N → N → Type 0
  CompletesAdmin said ending source source_after before after =
      (run : RunsAdmin said ending source source_after before after)
      × EndsUnfailed ending run.script.input run.script.last run.script.between run.client

-- The count of the dialler behind a run: one dial failed, or one link, where the service was out of reach. Else none
-- did, unless a link that was given back had ended or failed.
abbrev pub IsCounted : Ending → ℕ → ℕ → Type 0
IsCounted Net before after = after ≡ next_count before
IsCounted ending before after = MayCountFailure before after
