-- How the answering of frames stands between two of them.
use Rattle.std.specs.Prelude.{◌≡◌, ◌⊎◌, ℕ, List, [], Option}
use Rattle.desk_ports.specs.FileMap.{FileMap}
use Rattle.desk_ports.specs.Disk.{DiskState}
use Rattle.desk_keeper.specs.declared.keeper.Keeper.{Keeper}
use Rattle.wire_reading.specs.Stream.{Feeding}
use Rattle.wire_fields.specs.declared.messages.Framed.{Framed}
use Rattle.wire_fields.specs.declared.messages.Message.{Message}
use Rattle.wire_fields.specs.declared.messages.Message.TheVariants.{Stop}
use Rattle.door_frames.specs.Carried.{Carried}
use Rattle.door_frames.specs.Hearing.{HasHeard}
use Rattle.door_frames.specs.declared.endings.Ended.{Ended}
use Rattle.door_frames.specs.declared.endings.Ended.TheVariants.{Stopped}
use Rattle.admin_door.specs.Answering.{Answers, Refuses}
use Rattle.admin_door.specs.Due.{IsCutOff}
use Rattle.admin_door.specs.Serving.{AdminTalk, Exchange, AreAnswered, AreNoStops, exchanges_bytes, frames_of}
use Rattle.admin_door.specs.Serving.{ended_behind, replies_bytes, Serves}
use Rattle.admin_door.specs.Running.{RunsOver}

-- since the start these frames were answered, and their replies are all sent
pub record Stands (start now : AdminTalk) (feeder : Feeding) (Keeps : List Exchange → Type 0) : Type 0 where
  pub received : List ℕ
  pub answered : List Exchange
  pub in_turn : AreAnswered start.side answered now.side
  pub no_stops : AreNoStops answered
  pub heard : HasHeard received (frames_of answered) feeder
  pub carried : Carried start.traffic now.traffic received (exchanges_bytes answered)
  pub faults : now.faults ≡ start.faults
  pub ends : now.marks.ends ≡ start.marks.ends
  pub keeps : Keeps answered

-- from whatever start it stood so before, it stands so after
abbrev pub Goes : {D : Type 0} → (D → Option DiskState) → (D → ℕ) → (D → ℕ → FileMap → Type 0) → Keeper D → AdminTalk
    → Feeding
    → Keeper D → AdminTalk → Feeding → Type 0
Goes {D} state moment left_since was old before is new after =
    (first : Keeper D) (start : AdminTalk) → Stands start old before (RunsOver state moment left_since first was)
    → Stands start new after (RunsOver state moment left_since first is)

-- from whatever start it stood so before, the connection has ended so
abbrev pub Ends : {D : Type 0} → (D → Option DiskState) → (D → ℕ) → (D → ℕ → FileMap → Type 0) → Keeper D → AdminTalk
    → Feeding
    → Keeper D → AdminTalk → Ended → Type 0
Ends {D} state moment left_since was old before is new ended =
    (first : Keeper D) (start : AdminTalk) → Stands start old before (RunsOver state moment left_since first was)
    → Serves start new ended (RunsOver state moment left_since first is)

-- ---- one frame

-- the link but for the bytes that were sent over it
pub record SendsMore (old now : AdminTalk) (bytes : List ℕ) : Type 0 where
  pub carried : Carried old.traffic now.traffic [] bytes
  pub marks : now.marks ≡ old.marks

-- the frame is answered, and all replies are sent
pub record IsWhole (told : Option DiskState) (framed : Framed) (old now : AdminTalk) : Type 0 where
  pub replies : List Message
  pub answers : Answers told framed.message old.side now.side replies
  pub sends : SendsMore old now (replies_bytes framed.sequence replies)
  pub faults : now.faults ≡ old.faults

-- the frame has no answer
pub record IsUnheeded (told : Option DiskState) (framed : Framed) (old now : AdminTalk) (ended : Ended) : Type 0 where
  pub refuses : Refuses told framed.message old.side now.side ended
  pub sends : SendsMore old now []
  pub faults : now.faults ≡ old.faults

-- it is answered, and the answer is not sent whole
pub record IsHalfSent (told : Option DiskState) (framed : Framed) (old now : AdminTalk) (ended : Ended) : Type 0 where
  pub replies : List Message
  pub answers : Answers told framed.message old.side now.side replies
  pub cut_off : IsCutOff ended framed.sequence replies old.traffic now.traffic old.faults now.faults
  pub marks : now.marks ≡ old.marks

-- the connection ends at this frame
abbrev pub EndsAt : Option DiskState → Framed → AdminTalk → AdminTalk → Ended → Type 0
EndsAt told framed old now ended = IsUnheeded told framed old now ended
    ⊎ (((cause : Ended) × IsHalfSent told framed old now cause × (ended ≡ ended_behind framed.message cause))
    ⊎ (IsWhole told framed old now × (framed.message ≡ Stop) × (ended ≡ Stopped)))
