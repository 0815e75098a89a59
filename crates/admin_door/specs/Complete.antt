-- What a connection of an administrator is answered where nothing around it fails.
use Rattle.std.specs.Prelude.{◌≡◌, ◌<◌, ◌⊎◌, ℕ, List, [], ◌∷◌, ◌++◌, Option, Some}
use Rattle.desk_ports.specs.Disk.{DiskState}
use Rattle.desk_ports.specs.Faults.{last_count}
use Rattle.link_ports.specs.Traffic.{Traffic}
use Rattle.desk_state.specs.declared.commands.Command.{Command}
use Rattle.wire_reading.specs.Stream.{Hears}
use Rattle.wire_fields.specs.declared.messages.Framed.{Framed}
use Rattle.wire_fields.specs.declared.messages.Message.{Message}
use Rattle.wire_fields.specs.declared.messages.Message.TheVariants.{StoreDamaged}
use Rattle.wire_fields.specs.declared.operations.Heard.TheVariants.{AtAdmin}
use Rattle.door_frames.specs.declared.endings.Ended.{Ended}
use Rattle.admin_door.specs.Side.{AdminSide}
use Rattle.admin_door.specs.Settling.{Settles, Unsettles}
use Rattle.admin_door.specs.Answering.{IsDone, IsRefused}
use Rattle.admin_door.specs.Serving.{AdminTalk, Exchange, AreAnswered, StopsAt, frames_of, exchanges_bytes}
use Rattle.desk_keeper.specs.declared.refusals.KeeperRefusal.TheVariants as why

-- a count that has not risen, and could have
abbrev pub Stays : ℕ → ℕ → Type 0
Stays before after = (before < last_count) × (after ≡ before)

-- ---- a connection

-- the bytes that were received are these frames, and whole
pub record Receives (frames : List Framed) (start now : AdminTalk) : Type 0 where
  pub before : Traffic
  pub after : Traffic
  pub bytes : List ℕ
  pub told : start.traffic ≡ Some before
  pub told_now : now.traffic ≡ Some after
  pub received : after.received ≡ before.received ++ bytes
  pub heard : Hears AtAdmin bytes frames []

-- Each of these frames was answered where the one before left off, and its replies were sent, in their order. A stop is
-- the last of them, where it ended so, and else there was none.
pub record AnswersEach (ended : Ended) (frames : List Framed) (start now : AdminTalk) : Type 0 where
  pub exchanges : List Exchange
  pub frames_are : frames_of exchanges ≡ frames
  pub in_turn : AreAnswered start.side exchanges now.side
  pub stopping : StopsAt ended exchanges
  pub before : Traffic
  pub after : Traffic
  pub told : start.traffic ≡ Some before
  pub told_now : now.traffic ≡ Some after
  pub sent : after.sent ≡ before.sent ++ exchanges_bytes exchanges

-- those up to a stop were answered so
pub record AnswersFront (ended : Ended) (frames : List Framed) (start now : AdminTalk) : Type 0 where
  pub front : List Framed
  pub more : List Framed
  pub frames_are : frames ≡ front ++ more
  pub each : AnswersEach ended front start now

-- ---- a command

-- it is settled what an earlier one left undone, and the command is done, or refused by the first rule that it breaks
pub record IsDecided (told : Option DiskState) (command : Command) (old now : AdminSide) (replies : List Message) :
    Type 0 where
  pub between : AdminSide
  pub settles : Settles told old between
  pub done : IsDone command between now replies ⊎ IsRefused command between now replies

-- what an earlier one left undone could not be settled, since the folder is damaged or stands for an older state
pub record FindsDamage (told : Option DiskState) (old now : AdminSide) (replies : List Message) : Type 0 where
  pub file : List ℕ
  pub line : ℕ
  pub unsettled : Unsettles told old now (why.Damaged file line)
  pub answered : replies ≡ StoreDamaged file line ∷ []
