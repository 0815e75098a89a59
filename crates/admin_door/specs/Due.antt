-- What may be sent to an administrator.
use Rattle.std.specs.Prelude.{◌≡◌, ℕ, List, [], ◌∷◌, ◌++◌, Option}
use Rattle.desk_ports.specs.Disk.{DiskState}
use Rattle.link_ports.specs.Traffic.{Traffic}
use Rattle.live_roll.specs.declared.events.Event.{Event}
use Rattle.wire_fields.specs.declared.messages.Message.{Message}
use Rattle.door_frames.specs.Carried.{Carried}
use Rattle.door_frames.specs.Ending.{EndsSending}
use Rattle.door_frames.specs.declared.endings.Ended.{Ended}
use Rattle.admin_door.specs.Side.{AdminSide}
use Rattle.admin_door.specs.Answering.{Answers}
use Rattle.admin_door.specs.Adding.{Acknowledges}
use Rattle.admin_door.specs.Serving.{replies_bytes}

-- These replies are due: the message was answered so, from some state of what the door is served with, and what is
-- there now is what that left. A command that they tell as done is acknowledged, and a disconnect up to its commit
-- stands in this front of the roll's log; and the hall was stopped where they answer a stop.
pub record AreDue (message : Message) (now : AdminSide) (hangs : List Event) (replies : List Message) : Type 0 where
  pub told : Option DiskState
  pub old : AdminSide
  pub answered : Answers told message old now replies
  pub acknowledged : Acknowledges message now hangs replies

-- some replies were sent, and the next was not
pub record IsCutOff (ended : Ended) (sequence : ℕ) (replies : List Message) (old now : Option Traffic)
    (before after : ℕ) : Type 0 where
  pub sent : List Message
  pub next : Message
  pub unsent : List Message
  pub parts : replies ≡ sent ++ next ∷ unsent
  pub carried : Carried old now [] (replies_bytes sequence sent)
  pub faults : EndsSending ended before after
