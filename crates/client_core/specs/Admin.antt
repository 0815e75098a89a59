-- An administrator's side of a connection: what it keeps, and what its calls do and answer.
use Rattle.std.specs.Prelude.{◌≡◌, ◌⊎◌, ℕ, ◌+◌, ◌≤◌, nat_lt, Bool, true, false, List, [], ◌∷◌, ◌++◌, length}
use Rattle.std.specs.Int.{w16, w32, to_be_bytes}
use Rattle.std.specs.declared.alloc.AllocError.{AllocError}
use Rattle.wire_reading.specs.Frame.{body, spelling, frame_of, with_sequence, IsTooLong}
use Rattle.wire_fields.specs.Limits.{most_length}
use Rattle.wire_fields.specs.declared.messages.Message.{Message}
use Rattle.wire_fields.specs.declared.refusals.EncodeRefusal.TheVariants.{TooLong as TooLongFor}
use Rattle.wire_reading.specs.Hearing.{IsHeard}
use Rattle.wire_reading.specs.Stream.{wanted}
use Rattle.wire_fields.specs.declared.messages.Framed.{Framed}
use Rattle.wire_fields.specs.declared.operations.Heard.TheVariants.{AtAdmin, Replies}
use Rattle.wire_fields.specs.declared.refusals.WireRefusal.{WireRefusal}
use Rattle.wire_fields.specs.declared.refusals.WireRefusal.TheVariants.{Memory as NoMemory}
use Rattle.std.specs.Prelude.{Result, Ok, Err}
use Rattle.client_core.specs.Listening.{Listening, unheard, is_fit}
use Rattle.client_core.specs.Hearing.{HearsPiece, fault_by}
use Rattle.client_core.specs.Client.{next_number}
use Rattle.client_core.specs.AdminReplies.{wanted_of, next_of}
use Rattle.client_core.specs.declared.ears.Piece.{Piece}
use Rattle.client_core.specs.declared.ears.Piece.TheVariants as piece
use Rattle.client_core.specs.declared.stages.Exchange.{Exchange}
use Rattle.client_core.specs.declared.stages.AdminStage.{AdminStage}
use Rattle.client_core.specs.declared.stages.AdminStage.TheVariants as stage
use Rattle.client_core.specs.declared.steps.Step.{Step}
use Rattle.client_core.specs.declared.steps.Step.TheVariants as step
use Rattle.client_core.specs.declared.steps.Fault.TheVariants as fault
use Rattle.client_core.specs.declared.wanted.Next.{Next}
use Rattle.client_core.specs.declared.wanted.Next.TheVariants as next

-- The number of the next frame, the frame, whether a connection is there, and how far it has come with a message.
pub record Admin : Type 0 where
  pub sequence : ℕ
  pub frame : List ℕ
  pub is_linked : Bool
  pub stage : AdminStage

-- before the first message
abbrev pub fresh : Admin
fresh = record { sequence = 0; frame = []; is_linked = false; stage = stage.Idle }

-- no connection is there, and nothing is under way
abbrev pub cut : Admin → Admin
cut admin = record admin { is_linked = false; stage = stage.Idle }

abbrev pub IsNotNow : Step → Admin → Admin → Type 0
IsNotNow answer old new = (answer ≡ step.NotNow) × (new ≡ old)

-- ---- a message is to be sent

-- the bytes of a frame: its length, its sequence number, the number of an operation, and fields
abbrev pub raw_frame : ℕ → ℕ → List ℕ → List ℕ
raw_frame sequence operation fields =
    to_be_bytes w32 (length fields + 3) ++ (to_be_bytes w16 sequence ++ (operation ∷ fields))

-- the frame goes out, and the first reply to it is to come
abbrev pub sent : Exchange → Admin → Admin
sent exchange admin = record admin {
  sequence = next_number exchange.sequence;
  is_linked = true;
  stage = stage.Waiting exchange (unheard Replies);
}

abbrev pub exchange_of : Framed → Exchange
exchange_of framed = record { wanted = wanted_of framed.message; sequence = framed.sequence; rows = 0 }

abbrev pub begins : Bool → Exchange → Step → Admin → Admin → Type 0
begins true exchange answer old new = (answer ≡ step.Send) × (new ≡ sent exchange old)
begins false exchange answer old new = (answer ≡ step.Dial) × (new ≡ record old { stage = stage.Dialling exchange })

-- The bytes are the one frame of a message, as the service reads it.
pub record Takes (operation : ℕ) (fields : List ℕ) (answer : Step) (old new : Admin) : Type 0 where
  pub framed : Framed
  pub heard : IsHeard AtAdmin framed
  pub spelled : raw_frame old.sequence operation fields ≡ spelling framed
  pub begun : begins old.is_linked (exchange_of framed) answer (record old { frame = spelling framed }) new

-- a fault of the bytes, and no want of memory
abbrev pub IsOfBytes : WireRefusal → Type 0
IsOfBytes (NoMemory error) = ⊥
IsOfBytes refusal = Unit {0}

-- the service would refuse the frame, with this fault
pub record IsUnfit (operation : ℕ) (fields : List ℕ) (answer : Step) (old new : Admin) : Type 0 where
  pub refusal : WireRefusal
  pub of_bytes : IsOfBytes refusal
  pub is : answer ≡ step.Unfit refusal
  pub wrong : frame_of AtAdmin (raw_frame old.sequence operation fields) ≡ Err refusal
  pub same : new ≡ record old { frame = new.frame }

-- no memory was found, and the connection is given up
pub record FindsNoRoom (answer : Step) (old new : Admin) : Type 0 where
  pub error : AllocError
  pub is : answer ≡ step.Over (fault.Memory error)
  pub same : new ≡ record (cut old) { frame = new.frame }

abbrev pub reads : Bool → ℕ → List ℕ → Step → Admin → Admin → Type 0
reads true operation fields answer old new = (answer ≡ step.TooLong) × (new ≡ old)
reads false operation fields answer old new =
    Takes operation fields answer old new ⊎ (IsUnfit operation fields answer old new ⊎ FindsNoRoom answer old new)

abbrev pub sends_at : AdminStage → ℕ → List ℕ → Step → Admin → Admin → Type 0
sends_at stage.Idle operation fields answer old new =
    reads (nat_lt 1048573 (length fields)) operation fields answer old new
sends_at other operation fields answer old new = IsNotNow answer old new

abbrev pub Sends : ℕ → List ℕ → Step → Admin → Admin → Type 0
Sends operation fields answer old new = sends_at old.stage operation fields answer old new

-- ---- a message is to be sent, which is given by itself

-- Its frame is there, no longer than a frame may be; or no memory was found for it, and the connection is given up; or
-- it is too long, and this is its length.
abbrev pub spells : Message → Result Step ℕ → Admin → Admin → Type 0
spells message (Ok answer) old new =
    ((length (body (with_sequence old.sequence message)) ≤ most_length)
    × begins old.is_linked (exchange_of (with_sequence old.sequence message)) answer
    (record old { frame = spelling (with_sequence old.sequence message) }) new)
    ⊎ ((error : AllocError) × (answer ≡ step.Over (fault.Memory error)) × (new ≡ record (cut old) { frame = [] }))
spells message (Err n) old new =
    IsTooLong (with_sequence old.sequence message) (TooLongFor n) × (new ≡ record old { frame = [] })

-- what a message that is too long comes to
abbrev pub step_of : Result Step ℕ → Step
step_of (Ok answer) = answer
step_of (Err n) = step.TooLong

abbrev pub says_at : AdminStage → Message → Result Step ℕ → Admin → Admin → Type 0
says_at stage.Idle message answer old new = spells message answer old new
says_at other message answer old new = (answer ≡ Ok step.NotNow) × (new ≡ old)

abbrev pub Says : Message → Result Step ℕ → Admin → Admin → Type 0
Says message answer old new = says_at old.stage message answer old new

-- ---- what happens to the connection

abbrev pub dialled_at : AdminStage → Step → Admin → Admin → Type 0
dialled_at (stage.Dialling exchange) answer old new = (answer ≡ step.Send) × (new ≡ sent exchange old)
dialled_at other answer old new = IsNotNow answer old new

abbrev pub Dialled : Step → Admin → Admin → Type 0
Dialled answer old new = dialled_at old.stage answer old new

-- nothing is known of whether a command that was under way was accepted
abbrev pub answer_to_fall : AdminStage → Step
answer_to_fall stage.Idle = step.Idle
answer_to_fall other = step.Over fault.Unavailable

abbrev pub Falls : Step → Admin → Admin → Type 0
Falls answer old new = (answer ≡ answer_to_fall old.stage) × (new ≡ cut old)

-- ---- bytes came

-- how many bytes may come next, at most
abbrev pub wanted_at : AdminStage → ℕ
wanted_at (stage.Waiting exchange ear) = wanted ear.bytes
wanted_at other = 0

abbrev pub with_row : Exchange → Exchange
with_row exchange = record exchange { rows = exchange.rows + 1 }

-- a reply is whole: a row, and a further reply is to come; or the last one; or it is wrong
abbrev pub concludes : Next → Exchange → Framed → Step → Admin → Admin → Type 0
concludes next.More exchange framed answer old new =
    (answer ≡ step.Row framed.message)
    × (new ≡ record old { stage = stage.Waiting (with_row exchange) (unheard Replies) })
concludes next.Whole exchange framed answer old new =
    (answer ≡ step.Reply framed.message) × (new ≡ record old { stage = stage.Idle })
concludes (next.Wrong found) exchange framed answer old new = (answer ≡ step.Over found) × (new ≡ cut old)

abbrev pub Concludes : Exchange → Framed → Step → Admin → Admin → Type 0
Concludes exchange framed answer old new =
    concludes (next_of exchange.wanted exchange.sequence exchange.rows framed) exchange framed answer old new

abbrev pub hears : Piece → Exchange → Step → Admin → Admin → Type 0
hears (piece.More ear) exchange answer old new =
    (answer ≡ step.Wait) × (new ≡ record old { stage = stage.Waiting exchange ear })
hears (piece.Whole framed) exchange answer old new = Concludes exchange framed answer old new
hears (piece.Wrong refusal) exchange answer old new = (answer ≡ step.Over (fault_by refusal)) × (new ≡ cut old)

abbrev pub HearsReply : Exchange → Listening → List ℕ → Step → Admin → Admin → Type 0
HearsReply exchange ear bytes answer old new =
    (came : Piece) × HearsPiece came ear bytes × hears came exchange answer old new

abbrev pub comes : Bool → Exchange → Listening → List ℕ → Step → Admin → Admin → Type 0
comes true exchange ear bytes answer old new = HearsReply exchange ear bytes answer old new
comes false exchange ear bytes answer old new = (answer ≡ step.BadCount) × (new ≡ old)

abbrev pub comes_at : AdminStage → List ℕ → Step → Admin → Admin → Type 0
comes_at (stage.Waiting exchange ear) bytes answer old new =
    comes (is_fit ear.bytes bytes) exchange ear bytes answer old new
comes_at other bytes answer old new = IsNotNow answer old new

abbrev pub Comes : List ℕ → Step → Admin → Admin → Type 0
Comes bytes answer old new = comes_at old.stage bytes answer old new
