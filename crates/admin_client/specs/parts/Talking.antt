-- The frame of a message goes out on a link, and the machine hears what comes back.
use Rattle.std.specs.Prelude.{◌≡◌, ◌<◌, ℕ, List, ◌++◌, length, Option, Some, Result, Ok, Err}
use Rattle.link_ports.specs.Told.{IfTold}
use Rattle.link_ports.specs.Traffic.{Traffic, with_received}
use Rattle.link_ports.specs.LinkMarks.{LinkMarks}
use Rattle.wire_reading.specs.Stream.{IsOpen}
use Rattle.wire_fields.specs.declared.messages.Framed.{Framed}
use Rattle.wire_fields.specs.declared.messages.Message.{Message}
use Rattle.wire_fields.specs.declared.operations.Heard.TheVariants.{Replies}
use Rattle.client_connection.specs.Reading.{IsRead}
use Rattle.client_connection.specs.Coming.{Comes}
use Rattle.client_connection.specs.declared.faults.Broken.{Broken}
use Rattle.client_core.specs.Listening.{Listening, unheard}
use Rattle.client_core.specs.Hearing.{fault_by}
use Rattle.client_core.specs.Admin.{Admin, cut, with_row}
use Rattle.client_core.specs.AdminReplies.{IsRow, IsLast, IsWrong}
use Rattle.client_core.specs.declared.stages.Exchange.{Exchange}
use Rattle.client_core.specs.declared.stages.AdminStage.TheVariants as stage
use Rattle.client_core.specs.declared.steps.Step.{Step}
use Rattle.client_core.specs.declared.steps.Step.TheVariants as step
use Rattle.client_core.specs.declared.steps.Fault.{Fault}
use Rattle.client_core.specs.declared.steps.Fault.TheVariants as fault
use Rattle.client_core.specs.declared.wanted.Wanted.{Wanted}
use Rattle.admin_client.specs.Answers.{TookBytes, IsWhole, IsRefused, IfUnavailable}
use Rattle.admin_client.specs.Sending.{Exchanges, Ends}
use Rattle.admin_client.specs.declared.refusals.AdminRefusal.{AdminRefusal}

-- a reply is whole: it is a row, and a further reply is to come; or the last one; or it is wrong
pub data Follows (exchange : Exchange) (framed : Framed) (answer : Step) (old new : Admin) : Type 0 where
  row : IsRow exchange.wanted exchange.sequence exchange.rows framed → answer ≡ step.Row framed.message
      → new ≡ record old { stage = stage.Waiting (with_row exchange) (unheard Replies) }
      → Follows exchange framed answer old new
  last : IsLast exchange.wanted exchange.sequence exchange.rows framed → answer ≡ step.Reply framed.message
      → new ≡ record old { stage = stage.Idle } → Follows exchange framed answer old new
  wrong : (found : Fault) → IsWrong exchange.wanted exchange.sequence exchange.rows framed found
      → answer ≡ step.Over found
      → new ≡ cut old → Follows exchange framed answer old new

-- this was read, and the machine does what follows from it
abbrev pub Hears : (Result Framed Broken → Type 0) → Type 0 → Exchange → Step → Admin → Admin → Type 0
Hears Reads trouble exchange answer old new =
    Comes Reads (λ framed. Follows exchange framed answer old new)
    (λ refusal. (answer ≡ step.Over (fault_by refusal)) × (new ≡ cut old))
    (trouble × (answer ≡ step.Over fault.Unavailable) × (new ≡ cut old))

-- Bytes came, and the reply goes on with them; or they were the last.
pub data Takes (before after : Option Traffic) (trouble : Type 0) (exchange : Exchange) (ear : Listening)
    (answer : Step) (old new : Admin) : Type 0 where
  went_on : (bytes : List ℕ) → 0 < length bytes → IfTold before (λ traffic. after ≡ Some (with_received bytes traffic))
      → IsOpen ear.side (ear.bytes ++ bytes) → answer ≡ step.Wait
      → new ≡ record old { stage = stage.Waiting exchange (record ear { bytes = ear.bytes ++ bytes }) }
      → Takes before after trouble exchange ear answer old new
  ended : (bytes : List ℕ) → IfTold before (λ traffic. after ≡ Some (with_received bytes traffic))
      → Hears (λ result. IsRead ear.side result (ear.bytes ++ bytes)) trouble exchange answer old new
      → Takes before after trouble exchange ear answer old new

-- what the bytes that came say
abbrev pub Answers : Wanted → ℕ → Result (List Message) AdminRefusal → Option Traffic → Option Traffic → Type 0
Answers wanted sequence (Ok replies) start end = TookBytes (IsWhole wanted sequence replies) start end
Answers wanted sequence (Err refusal) start end = TookBytes (IsRefused wanted sequence refusal) start end

-- what the machine is behind an answer: it is linked still; and without one it is not
abbrev pub Leaves : Type 0 → Result (List Message) AdminRefusal → Admin → Admin → Type 0
Leaves trouble (Ok replies) old new = new ≡ record old { stage = stage.Idle }
Leaves trouble (Err refusal) old new = (new ≡ cut old) × IfUnavailable refusal trouble

module _ {N L : Type 0} (link_faults : L → ℕ) (marks : L → LinkMarks) (traffic : L → Option Traffic)
    (faults dials : N → ℕ) (given_back : N → Option (List L)) where
  -- the frame of the message went over this link, which stays or is given back
  pub record TalksOver (sequence : ℕ) (message : Message) (result : Result (List Message) AdminRefusal) (base : L)
      (old new : N) (left : Option L) : Type 0 where
    pub link : L
    pub exchanged : Exchanges sequence message result (traffic base) (traffic link)
    pub ends : Ends link_faults marks traffic faults dials given_back result old link new left
