-- An agent's side of a connection: what it keeps, and what its calls do and answer.
use Rattle.std.specs.Prelude.{◌≡◌, ◌⊎◌, ◌==◌, ℕ, Bool, true, false, if◌then◌else◌, List, [], ◌∷◌, ◌++◌, length, Option}
use Rattle.std.specs.Prelude.{Some, None}
use Rattle.std.specs.declared.alloc.AllocError.{AllocError}
use Rattle.cynara_keys.specs.declared.results.Kind.{Kind}
use Rattle.wire_fields.specs.Operation.{number_of}
use Rattle.wire_fields.specs.Message.{operation}
use Rattle.wire_reading.specs.Frame.{spelling, with_sequence}
use Rattle.wire_reading.specs.Stream.{wanted}
use Rattle.wire_fields.specs.declared.messages.Framed.{Framed}
use Rattle.wire_fields.specs.declared.messages.Message.{Message}
use Rattle.wire_fields.specs.declared.messages.Message.TheVariants.{Register, AgentAnswer, Registered, KindTaken}
use Rattle.wire_fields.specs.declared.messages.Message.TheVariants.{AgentQuestion, AgentWithdrawn, UnknownNumber}
use Rattle.wire_fields.specs.declared.operations.Heard.TheVariants.{AgentReplies}
use Rattle.client_core.specs.Listening.{Listening, unheard, is_fit}
use Rattle.client_core.specs.Hearing.{HearsPiece, fault_by}
use Rattle.client_core.specs.declared.ears.Piece.{Piece}
use Rattle.client_core.specs.declared.ears.Piece.TheVariants as piece
use Rattle.client_core.specs.declared.stages.Open.{Open}
use Rattle.client_core.specs.declared.stages.AgentStage.{AgentStage}
use Rattle.client_core.specs.declared.stages.AgentStage.TheVariants as stage
use Rattle.client_core.specs.declared.steps.Step.{Step}
use Rattle.client_core.specs.declared.steps.Step.TheVariants as step
use Rattle.client_core.specs.declared.steps.Fault.TheVariants as fault

-- The kind that it answers, the frame, and how far it has come.
pub record Agent : Type 0 where
  pub kind : Kind
  pub frame : List ℕ
  pub stage : AgentStage

abbrev pub fresh : Kind → Agent
fresh kind = record { kind = kind; frame = []; stage = stage.Dialling }

-- no connection is there, and no question is to be answered
abbrev pub cut : Agent → Agent
cut agent = record agent { stage = stage.Dialling }

abbrev pub IsNotNow : Step → Agent → Agent → Type 0
IsNotNow answer old new = (answer ≡ step.NotNow) × (new ≡ old)

-- The frame of the message is there, and it is to be sent; or no memory was found for it, and the connection is given
-- up.
abbrev pub Spells : ℕ → Message → AgentStage → Step → Agent → Agent → Type 0
Spells sequence message stage answer old new =
    ((answer ≡ step.Send) × (new ≡ record old { frame = spelling (with_sequence sequence message); stage = stage }))
    ⊎ ((error : AllocError) × (answer ≡ step.Over (fault.Memory error)) × (new ≡ record (cut old) { frame = [] }))

-- ---- what happens to the connection

-- the registration is to be sent
abbrev pub dialled_at : AgentStage → Step → Agent → Agent → Type 0
dialled_at stage.Dialling answer old new =
    Spells 0 (Register old.kind) (stage.Registering (unheard AgentReplies)) answer old new
dialled_at other answer old new = IsNotNow answer old new

abbrev pub Dialled : Step → Agent → Agent → Type 0
Dialled answer old new = dialled_at old.stage answer old new

abbrev pub Falls : Step → Agent → Agent → Type 0
Falls answer old new = (answer ≡ step.Over fault.Unavailable) × (new ≡ cut old)

-- ---- an answer is given

abbrev pub is_open : ℕ → Option Open → Bool
is_open number (Some question) = question.number == number
is_open number None = false

-- the question of this number is to be answered no more
abbrev pub still_open : ℕ → Option Open → Option Open
still_open number asked = if is_open number asked then None else asked

-- the question of this number, as it was asked, is answered; and it is not to be answered again
abbrev pub answers : Bool → Option Open → Listening → ℕ → Bool → Step → Agent → Agent → Type 0
answers true (Some question) ear number allowed answer old new =
    Spells question.sequence (AgentAnswer number allowed) (stage.Listening None ear) answer old new
answers fits other ear number allowed answer old new = (answer ≡ step.WrongNumber) × (new ≡ old)

abbrev pub answers_at : AgentStage → ℕ → Bool → Step → Agent → Agent → Type 0
answers_at (stage.Listening asked ear) number allowed answer old new =
    answers (is_open number asked) asked ear number allowed answer old new
answers_at other number allowed answer old new = IsNotNow answer old new

abbrev pub Answers : ℕ → Bool → Step → Agent → Agent → Type 0
Answers number allowed answer old new = answers_at old.stage number allowed answer old new

-- ---- bytes came

-- how many bytes may come next, at most
abbrev pub wanted_at : AgentStage → ℕ
wanted_at stage.Dialling = 0
wanted_at (stage.Registering ear) = wanted ear.bytes
wanted_at (stage.Listening asked ear) = wanted ear.bytes

abbrev pub listening : Option Open → AgentStage
listening asked = stage.Listening asked (unheard AgentReplies)

-- the message has no place here
abbrev pub IsMisplaced : Message → Step → Agent → Agent → Type 0
IsMisplaced message answer old new =
    (answer ≡ step.Over (fault.Operation (number_of (operation message)))) × (new ≡ cut old)

-- What the first message says: that the agent is registered, or that the kind is taken. Another has no place there.
pub data First : Type 0 where
  Registers : First
  IsTaken : First
  Strays : First

abbrev pub first_of : Message → First
first_of (Registered kind) = Registers
first_of (KindTaken kind) = IsTaken
first_of other = Strays

abbrev pub begins : First → Message → Step → Agent → Agent → Type 0
begins Registers message answer old new = (answer ≡ step.Reply message) × (new ≡ record old { stage = listening None })
begins IsTaken message answer old new = (answer ≡ step.Reply message) × (new ≡ cut old)
begins Strays message answer old new = IsMisplaced message answer old new

abbrev pub Begins : Message → Step → Agent → Agent → Type 0
Begins message answer old new = begins (first_of message) message answer old new

-- What a further message says: it asks the question of a number, or withdraws it, or it says that nobody waited for an
-- answer.
pub data Turn : Type 0 where
  Asks : ℕ → Turn
  Withdraws : ℕ → Turn
  Passes : Turn
  HasNoPlace : Turn

abbrev pub turn_of : Message → Turn
turn_of (AgentQuestion number question result) = Asks number
turn_of (AgentWithdrawn number) = Withdraws number
turn_of (UnknownNumber number) = Passes
turn_of other = HasNoPlace

abbrev pub turns : Turn → ℕ → Message → Option Open → Step → Agent → Agent → Type 0
turns (Asks number) sequence message asked answer old new =
    (answer ≡ step.Reply message)
    × (new ≡ record old { stage = listening (Some (record { number = number; sequence = sequence })) })
turns (Withdraws number) sequence message asked answer old new =
    (answer ≡ step.Reply message) × (new ≡ record old { stage = listening (still_open number asked) })
turns Passes sequence message asked answer old new =
    (answer ≡ step.Reply message) × (new ≡ record old { stage = listening asked })
turns HasNoPlace sequence message asked answer old new = IsMisplaced message answer old new

abbrev pub Turns : Framed → Option Open → Step → Agent → Agent → Type 0
Turns framed asked answer old new = turns (turn_of framed.message) framed.sequence framed.message asked answer old new

abbrev pub hears_first : Piece → Step → Agent → Agent → Type 0
hears_first (piece.More ear) answer old new =
    (answer ≡ step.Wait) × (new ≡ record old { stage = stage.Registering ear })
hears_first (piece.Whole framed) answer old new = Begins framed.message answer old new
hears_first (piece.Wrong refusal) answer old new = (answer ≡ step.Over (fault_by refusal)) × (new ≡ cut old)

abbrev pub hears_next : Piece → Option Open → Step → Agent → Agent → Type 0
hears_next (piece.More ear) asked answer old new =
    (answer ≡ step.Wait) × (new ≡ record old { stage = stage.Listening asked ear })
hears_next (piece.Whole framed) asked answer old new = Turns framed asked answer old new
hears_next (piece.Wrong refusal) asked answer old new = (answer ≡ step.Over (fault_by refusal)) × (new ≡ cut old)

abbrev pub HearsFirst : Listening → List ℕ → Step → Agent → Agent → Type 0
HearsFirst ear bytes answer old new = (came : Piece) × HearsPiece came ear bytes × hears_first came answer old new

abbrev pub HearsNext : Option Open → Listening → List ℕ → Step → Agent → Agent → Type 0
HearsNext asked ear bytes answer old new =
    (came : Piece) × HearsPiece came ear bytes × hears_next came asked answer old new

abbrev pub IsUncounted : Step → Agent → Agent → Type 0
IsUncounted answer old new = (answer ≡ step.BadCount) × (new ≡ old)

abbrev pub comes_first : Bool → Listening → List ℕ → Step → Agent → Agent → Type 0
comes_first true ear bytes answer old new = HearsFirst ear bytes answer old new
comes_first false ear bytes answer old new = IsUncounted answer old new

abbrev pub comes_next : Bool → Option Open → Listening → List ℕ → Step → Agent → Agent → Type 0
comes_next true asked ear bytes answer old new = HearsNext asked ear bytes answer old new
comes_next false asked ear bytes answer old new = IsUncounted answer old new

abbrev pub comes_at : AgentStage → List ℕ → Step → Agent → Agent → Type 0
comes_at stage.Dialling bytes answer old new = IsNotNow answer old new
comes_at (stage.Registering ear) bytes answer old new = comes_first (is_fit ear.bytes bytes) ear bytes answer old new
comes_at (stage.Listening asked ear) bytes answer old new =
    comes_next (is_fit ear.bytes bytes) asked ear bytes answer old new

abbrev pub Comes : List ℕ → Step → Agent → Agent → Type 0
Comes bytes answer old new = comes_at old.stage bytes answer old new
