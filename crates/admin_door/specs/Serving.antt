-- What a connection of an administrator is answered, and how it ends.
use Rattle.std.specs.Prelude.{◌≡◌, ◌⊎◌, ℕ, List, [], ◌∷◌, ◌++◌, map, Option}
use Rattle.std.specs.List.{AllByRecursion, flat_map}
use Rattle.desk_ports.specs.Disk.{DiskState}
use Rattle.link_ports.specs.Traffic.{Traffic}
use Rattle.link_ports.specs.LinkMarks.{LinkMarks}
use Rattle.wire_reading.specs.Frame.{spelling, with_sequence}
use Rattle.wire_fields.specs.declared.messages.Framed.{Framed}
use Rattle.wire_fields.specs.declared.messages.Message.{Message}
use Rattle.wire_fields.specs.declared.messages.Message.TheVariants.{Stop}
use Rattle.wire_fields.specs.declared.operations.Heard.TheVariants.{AtAdmin}
use Rattle.door_frames.specs.Carried.{Carried}
use Rattle.door_frames.specs.Ending.{EndsBytes, IsAtEnd, faults_after}
use Rattle.door_frames.specs.declared.endings.Ended.{Ended}
use Rattle.door_frames.specs.declared.endings.Ended.TheVariants.{Hung, LinkFault, Stopped, Memory, Strayed}
use Rattle.admin_door.specs.Side.{AdminSide}
use Rattle.admin_door.specs.Answering.{Answers, Refuses}

-- ---- frames in turn

-- a frame that came, what the disk told before it, and the replies to it
pub record Exchange : Type 0 where
  pub framed : Framed
  pub told : Option DiskState
  pub replies : List Message

abbrev pub exchange_of : Framed → Option DiskState → List Message → Exchange
exchange_of framed told replies = record { framed = framed; told = told; replies = replies }

-- the bytes of replies: each a frame with the sequence number of the one that asked
abbrev pub replies_bytes : ℕ → List Message → List ℕ
replies_bytes sequence replies = flat_map (λ reply. spelling (with_sequence sequence reply)) replies

abbrev pub exchange_bytes : Exchange → List ℕ
exchange_bytes exchange = replies_bytes exchange.framed.sequence exchange.replies

abbrev pub exchanges_bytes : List Exchange → List ℕ
exchanges_bytes exchanges = flat_map exchange_bytes exchanges

-- the frames that asked
abbrev pub frames_of : List Exchange → List Framed
frames_of exchanges = map (λ (exchange : Exchange). exchange.framed) exchanges

-- the frame was answered so, and that left this
abbrev pub IsAnswered : Exchange → AdminSide → AdminSide → Type 0
IsAnswered exchange old now = Answers exchange.told exchange.framed.message old now exchange.replies

-- the frames were answered one after the other, each where the one before left off
abbrev pub AreAnswered : AdminSide → List Exchange → AdminSide → Type 0
AreAnswered start [] now = now ≡ start
AreAnswered start (exchange ∷ more) now =
    (between : AdminSide) × IsAnswered exchange start between × AreAnswered between more now

-- ---- the end

-- the message is no stop
abbrev pub IsNoStop : Message → Type 0
IsNoStop Stop = ⊥
IsNoStop other = Unit {0}

abbrev pub AreNoStops : List Exchange → Type 0
AreNoStops exchanges = AllByRecursion (λ (exchange : Exchange). IsNoStop exchange.framed.message) exchanges

-- The frames that were answered are such where a connection ended so: a stop is the last of them where it ended as
-- stopped, and else there is none.
abbrev pub StopsAt : Ended → List Exchange → Type 0
StopsAt Stopped answered = (front : List Exchange) × (last : Exchange)
    × (answered ≡ front ++ last ∷ []) × AreNoStops front × (last.framed.message ≡ Stop)
StopsAt (Hung entered now) answered = ⊥
StopsAt (Strayed number found) answered = ⊥
StopsAt ended answered = AreNoStops answered

-- a reply is not sent for want of memory, or since a call of the link failed
abbrev pub IsUnsent : Ended → Type 0
IsUnsent Memory = Unit {0}
IsUnsent LinkFault = Unit {0}
IsUnsent ended = ⊥

-- a frame whose replies were not all sent: the first of them were
pub record IsBrokenOff (ended : Ended) (exchange : Exchange) (sent : List Message) : Type 0 where
  pub next : Message
  pub unsent : List Message
  pub replies : exchange.replies ≡ sent ++ next ∷ unsent
  pub reason : IsUnsent ended

-- What came behind the frames whose replies were all sent, and which bytes were sent for it: nothing; a frame that had
-- no answer; or a frame whose answer was not sent whole.
abbrev pub EndsAnswering : Ended → AdminSide → AdminSide → List Exchange → List ℕ → Type 0
EndsAnswering cause between now last bytes =
    ((last ≡ []) × (bytes ≡ []) × (now ≡ between))
    ⊎ (((exchange : Exchange) × (last ≡ exchange ∷ []) × (bytes ≡ []) × (exchange.replies ≡ [])
    × Refuses exchange.told exchange.framed.message between now cause)
    ⊎ ((exchange : Exchange) × (sent : List Message) × (last ≡ exchange ∷ [])
    × (bytes ≡ replies_bytes exchange.framed.sequence sent) × IsAnswered exchange between now
    × IsBrokenOff cause exchange sent))

-- how a connection ends at a frame that is answered, where its answer is not sent whole for this: a stop is made by
-- then
abbrev pub ended_behind : Message → Ended → Ended
ended_behind Stop cause = Stopped
ended_behind other cause = cause

-- none of these is a stop that was made: it has no answer, or is no stop
abbrev pub MakesNoStop : List Exchange → Type 0
MakesNoStop exchanges =
    AllByRecursion (λ (exchange : Exchange). (exchange.replies ≡ []) ⊎ IsNoStop exchange.framed.message) exchanges

-- the frame whose answer was not sent whole is a stop
pub record StopsUnsent (cause : Ended) (answered last : List Exchange) : Type 0 where
  pub stop : Exchange
  pub last_is : last ≡ stop ∷ []
  pub message : stop.framed.message ≡ Stop
  pub no_stops : AreNoStops answered
  pub reason : IsUnsent cause

-- A connection ends for what caused it, or as stopped: exactly where a stop was made, whether or not its reply was
-- sent, and no stop was made before.
abbrev pub EndsFor : Ended → Ended → List Exchange → List Exchange → Type 0
EndsFor ended cause answered last =
    ((ended ≡ cause) × StopsAt ended answered × MakesNoStop last)
    ⊎ ((ended ≡ Stopped) × StopsUnsent cause answered last)

-- ---- a whole connection

-- what a connection is served with, and its link
pub record AdminTalk : Type 0 where
  pub side : AdminSide
  pub traffic : Option Traffic
  pub marks : LinkMarks
  pub faults : ℕ

abbrev pub talk_of : AdminSide → Option Traffic → LinkMarks → ℕ → AdminTalk
talk_of side traffic marks faults = record { side = side; traffic = traffic; marks = marks; faults = faults }

-- The frames received were answered in turn, with the replies in order, up to what caused its end. What these frames,
-- the last one with them, left elsewhere is as `Keeps` says.
pub record Serves (start now : AdminTalk) (ended : Ended) (Keeps : List Exchange → Type 0) : Type 0 where
  pub received : List ℕ
  pub answered : List Exchange
  pub between : AdminSide
  pub last : List Exchange
  pub last_bytes : List ℕ
  pub cause : Ended
  pub in_turn : AreAnswered start.side answered between
  pub ending : EndsAnswering cause between now.side last last_bytes
  pub stopping : EndsFor ended cause answered last
  pub bytes : EndsBytes AtAdmin received (frames_of answered ++ frames_of last) cause
  pub carried : Carried start.traffic now.traffic received (exchanges_bytes answered ++ last_bytes)
  pub faults : now.faults ≡ faults_after cause start.faults
  pub at_end : IsAtEnd cause now.marks
  pub ends : now.marks.ends ≡ start.marks.ends
  pub keeps : Keeps (answered ++ last)
