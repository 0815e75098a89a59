-- A client as its machine, its link and its dialler.
use Rattle.std.specs.Prelude.{◌≡◌, ℕ, true, false, Option, is_some}
use Rattle.wire_reading.specs.Frame.{with_sequence}
use Rattle.wire_fields.specs.declared.messages.Message.{Message}
use Rattle.wire_fields.specs.declared.operations.Heard.TheVariants.{Replies}
use Rattle.client_core.specs.Listening.{unheard}
use Rattle.client_core.specs.Admin.{Admin, exchange_of}
use Rattle.client_core.specs.declared.stages.AdminStage.TheVariants as stage
use Rattle.admin_client.specs.Sending.{State, Fits, frame_of}

abbrev pub seen : {N L : Type 0} → N → Option L → Admin → State N L
seen dial link machine = record { dial = dial; link = link; sequence = machine.sequence }

-- no message is under way, and the machine knows whether a link is there
abbrev pub IsAtRest : {L : Type 0} → Option L → Admin → Type 0
IsAtRest link machine = (machine.stage ≡ stage.Idle) × (machine.is_linked ≡ is_some link)

abbrev pub IsAlone : Admin → Type 0
IsAlone machine = (machine.stage ≡ stage.Idle) × (machine.is_linked ≡ false)

abbrev pub IsLinked : Admin → Type 0
IsLinked machine = (machine.stage ≡ stage.Idle) × (machine.is_linked ≡ true)

-- the service is to be dialled for this message
pub record IsDialling (message : Message) (machine : Admin) : Type 0 where
  pub stage_is : machine.stage ≡ stage.Dialling (exchange_of (with_sequence machine.sequence message))
  pub frame_is : machine.frame ≡ frame_of machine.sequence message
  pub fits : Fits machine.sequence message

-- the frame of this message, which has this number, is to be sent, and the first reply to it is to come
pub record IsDue (sequence : ℕ) (message : Message) (machine : Admin) : Type 0 where
  pub stage_is : machine.stage ≡ stage.Waiting (exchange_of (with_sequence sequence message)) (unheard Replies)
  pub frame_is : machine.frame ≡ frame_of sequence message
  pub linked : machine.is_linked ≡ true
