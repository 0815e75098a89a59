-- A frame is sent over a link, and one frame is read.
use Rattle.std.specs.Prelude.{◌≡◌, ◌⊎◌, ℕ, List, [], Option, Some, Result, Ok, Err}
use Rattle.link_ports.specs.Told.{IfTold}
use Rattle.link_ports.specs.Traffic.{Traffic, with_received, with_sent}
use Rattle.wire_fields.specs.declared.messages.Framed.{Framed}
use Rattle.wire_fields.specs.declared.operations.Heard.TheVariants.{Replies}
use Rattle.client_connection.specs.Reading.{IsRead}
use Rattle.client_connection.specs.declared.faults.Broken.{Broken}
use Rattle.client_connection.specs.declared.faults.Broken.TheVariants.{Lost, Wrong}

-- What was sent: the whole frame where there is a reply, or a wrong one; and else the frame, or nothing of it.
abbrev pub IsSent : List ℕ → Result Framed Broken → List ℕ → Type 0
IsSent frame (Ok framed) sent = sent ≡ frame
IsSent frame (Err (Wrong refusal)) sent = sent ≡ frame
IsSent frame (Err Lost) sent = (sent ≡ frame) ⊎ (sent ≡ [])

-- the frame went out on the link, and the bytes received since are the reply
abbrev pub Exchanges : List ℕ → Result Framed Broken → Option Traffic → Option Traffic → Type 0
Exchanges frame result old new = IfTold old (λ before.
    (sent : List ℕ) × (bytes : List ℕ) × IsSent frame result sent × IsRead Replies result bytes
    × (new ≡ Some (with_received bytes (with_sent sent before))))
