-- What a part of a run sends and writes.
use Rattle.std.specs.Prelude.{◌≡◌, ◌⊎◌, ℕ, List, [], ◌∷◌, ◌++◌, map, Option, Result, Ok, Err}
use Rattle.desk_ports.specs.Faults.{next_count}
use Rattle.desk_ports.specs.Content.{Appended, AppendedPart}
use Rattle.link_ports.specs.Traffic.{Traffic}
use Rattle.link_ports.specs.LinkMarks.{LinkMarks}
use Rattle.line_script.specs.declared.steps.Step.{Step}
use Rattle.wire_fields.specs.declared.messages.Message.{Message}
use Rattle.admin_client.specs.Sending.{State}
use Rattle.run_endings.specs.Outside.{SinkSeen}
use Rattle.run_endings.specs.Saying.{Said, WritesAnswers}
use Rattle.run_endings.specs.declared.endings.Ending.{Ending}
use Rattle.run_endings.specs.declared.endings.Ending.TheVariants.{Done, Memory, Sink, Net, Reply, TooLong}
use Rattle.admin_runs.specs.AdminRun.{Exchange, texts_of, messages_of, AreInTurn, AreExchanged, EndsSending}

-- how a part of a run ends
abbrev pub ending_by : {A : Type 0} → Result A Ending → Ending
ending_by (Ok value) = Done
ending_by (Err ending) = ending

-- the endings that a message may come to
abbrev pub IsStop : Ending → Type 0
IsStop Memory = Unit {0}
IsStop Sink = Unit {0}
IsStop Net = Unit {0}
IsStop Reply = Unit {0}
IsStop (TooLong size) = Unit {0}
IsStop ending = ⊥

-- a text is written, or a part of it where the sink failed, or nothing where memory ran out
abbrev pub WritesText : List ℕ → SinkSeen → SinkSeen → Result (Unit {0}) Ending → Type 0
WritesText text before after (Ok value) = Appended before.taken text after.taken × (after.faults ≡ before.faults)
WritesText text before after (Err Sink) = AppendedPart before.taken text after.taken
    × (after.faults ≡ next_count before.faults)
WritesText text before after (Err Memory) = (after.taken ≡ before.taken) × (after.faults ≡ before.faults)
WritesText text before after (Err ending) = ⊥

module _ {N L : Type 0} (link_faults : L → ℕ) (marks : L → LinkMarks) (traffic : L → Option Traffic)
    (faults dials : N → ℕ) (given_back : N → Option (List L)) where
  -- These messages were due; each was sent once and answered, in order, but for a last one where the run ends so. The
  -- answers are written, each before the next message was sent.
  pub record Talks (old new : State N L) (before after : SinkSeen) (messages : List Message)
      (ending : Ending) : Type 0 where
    pub said : Said
    pub answered : List Exchange
    pub last : List Message
    pub between : State N L
    pub sent : messages ≡ map (λ exchange. exchange.message) answered ++ last
    pub exchanged : AreExchanged link_faults marks traffic faults dials given_back answered old between
    pub ends : EndsSending link_faults marks traffic faults dials given_back ending last between new
    pub due : said.due ≡ texts_of answered
    pub in_turn : AreInTurn answered said.written
    pub writes : WritesAnswers ending said before after

-- ---- by what `Talks` says of messages that were due, and of how the run ends

module _ (Talks : List Message → Ending → Type 0) where
  -- one message was due
  abbrev pub SendsMessage : Message → Result (Unit {0}) Ending → Type 0
  SendsMessage message (Ok value) = Talks (message ∷ []) Done
  SendsMessage message (Err ending) = IsStop ending × Talks (message ∷ []) ending

  -- the run ends at a step: at its message, or since no memory was found for that
  abbrev pub StopsAtStep : Step → Ending → Type 0
  StopsAtStep asked ending = (IsStop ending × Talks (messages_of (asked ∷ [])) ending)
      ⊎ ((ending ≡ Memory) × Talks [] ending)

  abbrev pub SendsStep : Step → Result (Unit {0}) Ending → Type 0
  SendsStep asked (Ok value) = Talks (messages_of (asked ∷ [])) Done
  SendsStep asked (Err ending) = StopsAtStep asked ending
