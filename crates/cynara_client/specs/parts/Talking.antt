-- The frame of a question goes out on a link, and the machine hears what comes back.
use Rattle.std.specs.Prelude.{◌≡◌, ◌<◌, ℕ, true, List, ◌++◌, length, Option, Some, Result}
use Rattle.link_ports.specs.Told.{IfTold}
use Rattle.link_ports.specs.Traffic.{Traffic, with_received}
use Rattle.wire_reading.specs.Stream.{IsOpen}
use Rattle.wire_fields.specs.declared.messages.Framed.{Framed}
use Rattle.client_connection.specs.Reading.{IsRead}
use Rattle.client_connection.specs.Coming.{Comes}
use Rattle.client_connection.specs.declared.faults.Broken.{Broken}
use Rattle.client_core.specs.Listening.{Listening}
use Rattle.client_core.specs.Hearing.{fault_by}
use Rattle.client_core.specs.Client.{Client, forgotten, raised}
use Rattle.client_core.specs.Asking.{Concludes, Retries}
use Rattle.client_core.specs.declared.stages.Asking.{Asking}
use Rattle.client_core.specs.declared.stages.Stage.TheVariants as stage
use Rattle.client_core.specs.declared.steps.Step.{Step}
use Rattle.client_core.specs.declared.steps.Step.TheVariants as step

-- its frame was to be sent
abbrev pub tried : Asking → Asking
tried asking = record asking { is_tried = true }

-- this was read, and the machine does what follows from it
abbrev pub Hears : (Result Framed Broken → Type 0) → Type 0 → Asking → Step → Client → Client → Type 0
Hears Reads trouble asking answer old new =
    Comes Reads (λ framed. Concludes asking framed answer old new)
    (λ refusal. (answer ≡ step.Over (fault_by refusal)) × (new ≡ raised true (forgotten old)))
    (trouble × Retries asking answer old new)

-- Bytes came, and the reply goes on with them; or they were the last.
pub data Takes (before after : Option Traffic) (trouble : Type 0) (asking : Asking) (ear : Listening) (answer : Step)
    (old new : Client) : Type 0 where
  went_on : (bytes : List ℕ) → 0 < length bytes → IfTold before (λ traffic. after ≡ Some (with_received bytes traffic))
      → IsOpen ear.side (ear.bytes ++ bytes) → answer ≡ step.Wait
      → new ≡ record old { stage = stage.Waiting asking (record ear { bytes = ear.bytes ++ bytes }) }
      → Takes before after trouble asking ear answer old new
  ended : (bytes : List ℕ) → IfTold before (λ traffic. after ≡ Some (with_received bytes traffic))
      → Hears (λ result. IsRead ear.side result (ear.bytes ++ bytes)) trouble asking answer old new
      → Takes before after trouble asking ear answer old new
