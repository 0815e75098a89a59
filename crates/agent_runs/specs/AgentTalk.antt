-- What an agent hears, writes and sends on a connection, over all messages at once.
use Rattle.std.specs.Prelude.{◌≡◌, ◌⊎◌, ◌<◌, ◌≤◌, ℕ, Bool, true, false, List, [], ◌∷◌, ◌++◌, length}
use Rattle.std.specs.List.{flat_map, AllByRecursion}
use Rattle.cynara_keys.specs.declared.results.Kind.{Kind}
use Rattle.line_answers.specs.Answers.{question_text, taken_text}
use Rattle.wire_fields.specs.declared.messages.Framed.{Framed}
use Rattle.wire_fields.specs.declared.messages.Message.{Message}
use Rattle.wire_fields.specs.declared.messages.Message.TheVariants.{Register, AgentAnswer, Registered, KindTaken}
use Rattle.wire_fields.specs.declared.messages.Message.TheVariants.{AgentQuestion, UnknownNumber}
use Rattle.wire_fields.specs.declared.messages.Message.TheVariants.{AgentWithdrawn}
use Rattle.wire_fields.specs.declared.operations.Heard.TheVariants.{AgentReplies}
use Rattle.wire_fields.specs.declared.refusals.WireRefusal.{WireRefusal}
use Rattle.wire_reading.specs.Frame.{spelling, with_sequence}
use Rattle.wire_reading.specs.Stream.{Hears, IsOpen, Wrong, first_of}
use Rattle.client_connection.specs.Reading.{size_of}
use Rattle.run_endings.specs.Ending.{net_faults_after}
use Rattle.run_endings.specs.Outside.{SinkSeen}
use Rattle.run_endings.specs.Saying.{Said, silence, WritesAnswers}
use Rattle.run_endings.specs.declared.endings.Ending.{Ending}
use Rattle.run_endings.specs.declared.endings.Ending.TheVariants.{Done, Memory, Sink, Net, Reply}
use Rattle.agent_runs.specs.LinkSeen.{LinkSeen, Carries}

-- ---- what follows from a message

abbrev pub line_for : Message → List ℕ
line_for (AgentQuestion number question result) =
    question_text number question.client question.user question.privilege result
line_for (KindTaken kind) = taken_text kind.0
line_for message = []

-- the line that is written of it, where there is one
abbrev pub line_of : Framed → List ℕ
line_of framed = line_for framed.message

abbrev pub answer_for : Bool → ℕ → Message → List ℕ
answer_for allowed sequence (AgentQuestion number question result) =
    spelling (with_sequence sequence (AgentAnswer number allowed))
answer_for allowed sequence message = []

-- the frame that is sent for it, where it is a question: this answer to its number, with its sequence number
abbrev pub answer_of : Bool → Framed → List ℕ
answer_of allowed framed = answer_for allowed framed.sequence framed.message

-- the lines of these messages
abbrev pub lines : List Framed → List ℕ
lines messages = flat_map line_of messages

-- what is sent by the time these messages are answered: the registration, and then the answers
abbrev pub sent_after : Kind → Bool → List Framed → List ℕ
sent_after kind allowed messages =
    spelling (with_sequence 0 (Register kind)) ++ flat_map (answer_of allowed) messages

-- ---- places

abbrev pub IsRegistered : Message → Type 0
IsRegistered (Registered kind) = Unit {0}
IsRegistered message = ⊥

abbrev pub IsRefused : Message → Type 0
IsRefused (KindTaken kind) = Unit {0}
IsRefused message = ⊥

abbrev pub IsQuestion : Message → Type 0
IsQuestion (AgentQuestion number question result) = Unit {0}
IsQuestion message = ⊥

-- It may come behind the registration. That a number is unknown, or that a question was withdrawn, is read, and nothing
-- follows: a question is answered as soon as it is heard, so the answer was on its way.
abbrev pub IsTurn : Message → Type 0
IsTurn (AgentQuestion number question result) = Unit {0}
IsTurn (UnknownNumber number) = Unit {0}
IsTurn (AgentWithdrawn number) = Unit {0}
IsTurn message = ⊥

abbrev pub AreTurns : List Framed → Type 0
AreTurns turns = AllByRecursion (λ framed. IsTurn framed.message) turns

-- Messages in their places, behind which the agent hears on: none, or that it is registered and then turns.
abbrev pub GoesOn : List Framed → Type 0
GoesOn [] = Unit {0}
GoesOn (first ∷ turns) = IsRegistered first.message × AreTurns turns

-- the only message says that the kind is taken
abbrev pub IsTaken : List Framed → Type 0
IsTaken [] = ⊥
IsTaken (first ∷ others) = IsRefused first.message × (others ≡ [])

abbrev pub AreInPlace : List Framed → Type 0
AreInPlace messages = GoesOn messages ⊎ IsTaken messages

-- ---- how it ends

-- Behind these messages the bytes are a bad reply: a frame that is wrong, and no byte past it; the end of the input
-- within a frame; or a message out of its place.
pub data IsBadReply (messages : List Framed) (behind : List ℕ) (found : Bool) : Type 0 where
  wrong : (refusal : WireRefusal) → first_of AgentReplies behind ≡ Wrong refusal → length behind ≤ size_of behind
      → found ≡ false
      → IsBadReply messages behind found
  cut : 0 < length behind → IsOpen AgentReplies behind → found ≡ true → IsBadReply messages behind found
  misplaced : (framed : Framed) → Hears AgentReplies behind (framed ∷ []) []
      → (AreInPlace (messages ++ framed ∷ []) → ⊥)
      → found ≡ false → IsBadReply messages behind found

-- no message, or a question that was not answered
abbrev pub IsUnanswered : List Framed → Type 0
IsUnanswered [] = Unit {0}
IsUnanswered (framed ∷ []) = IsQuestion framed.message
IsUnanswered (framed ∷ other ∷ others) = ⊥

-- How an agent ends that was done with these messages, heard this one behind them, and received these bytes behind
-- that; and whether it found the end of the input.
abbrev pub EndsBehind : Ending → Said → List Framed → List Framed → List ℕ → Bool → Type 0
-- the input ended between frames, or the kind is taken
EndsBehind Done said messages last behind found =
    (last ≡ []) × (behind ≡ []) × ((GoesOn messages × (found ≡ true)) ⊎ (IsTaken messages × (found ≡ false)))
EndsBehind Reply said messages last behind found = (last ≡ []) × GoesOn messages × IsBadReply messages behind found
-- the sink did not take the last message's line whole
EndsBehind Sink said messages last behind found =
    (framed : Framed) × (front : List ℕ) × (last ≡ framed ∷ []) × (behind ≡ []) × GoesOn messages
    × AreInPlace (messages ++ last) × (said.written ≡ lines messages ++ front) × (found ≡ false)
-- the link failed while it was to receive, or while the answer was to be sent
EndsBehind Net said messages last behind found =
    GoesOn (messages ++ last) × IsUnanswered last × IsOpen AgentReplies behind × (found ≡ false)
EndsBehind Memory said messages last behind found = GoesOn messages × IsUnanswered last × (found ≡ false)
EndsBehind ending said messages last behind found = ⊥

-- The registration was sent, and then each message was heard, its line was due, and its answer was sent. For the last
-- one, where it was not done with, the line was due and no answer was sent.
pub record Talks (kind : Kind) (allowed : Bool) (ending : Ending) (said : Said) (sent received : List ℕ)
    (found : Bool) : Type 0 where
  pub messages : List Framed
  pub last : List Framed
  pub behind : List ℕ
  pub heard : Hears AgentReplies received (messages ++ last) behind
  pub answered : sent ≡ sent_after kind allowed messages
  pub due : said.due ≡ lines (messages ++ last)
  pub ends : EndsBehind ending said messages last behind found

-- no memory for the registration, or the link failed there
abbrev pub IsUnregistered : Ending → Type 0
IsUnregistered Net = Unit {0}
IsUnregistered Memory = Unit {0}
IsUnregistered ending = ⊥

-- the registration was not sent, and nothing else was done
pub record IsSilent (ending : Ending) (said : Said) (sent received : List ℕ) (found : Bool) : Type 0 where
  pub unregistered : IsUnregistered ending
  pub said_is : said ≡ silence
  pub nothing : (sent ≡ []) × (received ≡ []) × (found ≡ false)

-- What an agent of this kind that gives this answer says, and how it ends, over a link before and after.
pub record Serves (kind : Kind) (allowed : Bool) (said : Said) (ending : Ending)
    (before after : LinkSeen) : Type 0 where
  pub sent : List ℕ
  pub received : List ℕ
  pub found : Bool
  pub carried : Carries sent received found before after
  pub talked : Talks kind allowed ending said sent received found ⊎ IsSilent ending said sent received found
  pub faults : after.faults ≡ net_faults_after ending before.faults

-- the same with what is written of it
abbrev pub Served : Kind → Bool → Ending → LinkSeen → LinkSeen → SinkSeen → SinkSeen → Type 0
Served kind allowed ending before after sink sink_after =
    (said : Said) × Serves kind allowed said ending before after × WritesAnswers ending said sink sink_after
