-- What a connection of an agent is told and asked, and how it ends.
use Rattle.std.specs.Prelude.{◌≡◌, ◌⊎◌, ◌≤◌, ℕ, true, List, [], ◌∷◌, ◌++◌, length, Option, Ok, Err}
use Rattle.std.specs.List.{AllByRecursion, flat_map}
use Rattle.link_ports.specs.Traffic.{Traffic}
use Rattle.link_ports.specs.LinkMarks.{LinkMarks}
use Rattle.cynara_keys.specs.declared.results.Kind.{Kind}
use Rattle.agent_table.specs.declared.refusals.RegisterRefusal.{RegisterRefusal}
use Rattle.agent_table.specs.declared.refusals.RegisterRefusal.TheVariants.{Stopped as NoneComes, Taken as KindTaken}
use Rattle.agent_table.specs.declared.refusals.RegisterRefusal.TheVariants.{Full, Memory as NoRoom}
use Rattle.wire_reading.specs.Frame.{spelling}
use Rattle.wire_fields.specs.Operation.{number_of}
use Rattle.wire_fields.specs.Message.{operation}
use Rattle.wire_reading.specs.Stream.{Hears, IsOpen as IsBegun}
use Rattle.wire_fields.specs.declared.messages.Framed.{Framed}
use Rattle.wire_fields.specs.declared.operations.Heard.TheVariants.{AtAgent}
use Rattle.wire_fields.specs.declared.refusals.WireRefusal.TheVariants.{BadOperation}
use Rattle.server_hall.specs.Tally.{Tally, after_join, after_part, after_calls}
use Rattle.server_hall.specs.Told.{AppendsCalls}
use Rattle.server_hall.specs.declared.calls.HallCall.{HallCall}
use Rattle.server_hall.specs.declared.calls.HallCall.TheVariants.{Join, Next}
use Rattle.server_hall.specs.declared.refusals.NextRefusal.{NextRefusal}
use Rattle.server_hall.specs.declared.refusals.NextRefusal.TheVariants.{Stopped as NoneIsGiven, Left}
use Rattle.door_frames.specs.Carried.{Carried}
use Rattle.door_frames.specs.Ending.{EndsBytes, IsAtEnd, faults_after}
use Rattle.door_frames.specs.declared.endings.Ended.{Ended}
use Rattle.door_frames.specs.declared.endings.Ended.TheVariants.{Closed, Cut, Hung, LinkFault}
use Rattle.door_frames.specs.declared.endings.Ended.TheVariants.{BadFrame, Stopped, Memory, Strayed}
use Rattle.agent_door.specs.Frame.{register_frame, registered_frame, taken_frame}
use Rattle.agent_door.specs.Round.{Round, IsWhole, IsOpen, IsLate, rounds_calls, rounds_frames, rounds_told}
use Rattle.agent_door.specs.declared.messages.Registration.{Registration}

-- what a connection of an agent is served with: the hall's tally and calls, and the link
pub record AgentSide : Type 0 where
  pub tally : Tally
  pub calls : Option (List HallCall)
  pub traffic : Option Traffic
  pub marks : LinkMarks
  pub faults : ℕ

abbrev pub agent_side : Tally → Option (List HallCall) → Option Traffic → LinkMarks → ℕ → AgentSide
agent_side tally calls traffic marks faults =
    record { tally = tally; calls = calls; traffic = traffic; marks = marks; faults = faults }

-- the operation that is not known where it stands: an answer before a registration, and a registration behind it
abbrev pub misplaced_behind : List Framed → ℕ
misplaced_behind [] = 0x21
misplaced_behind (framed ∷ more) = 0x20

-- The bytes that were received, of which these frames were heeded, are such where a connection ended so. A frame that
-- is not known where it stands is wrong there.
abbrev pub EndsHeeding : List ℕ → List Framed → Ended → Type 0
EndsHeeding bytes heeded (BadFrame (BadOperation number)) =
    EndsBytes AtAgent bytes heeded (BadFrame (BadOperation number))
    ⊎ ((framed : Framed) × (more : List Framed) × (rest : List ℕ)
    × Hears AtAgent bytes (heeded ++ framed ∷ more) rest
    × (number_of (operation framed.message) ≡ number) × (number ≡ misplaced_behind heeded))
EndsHeeding bytes heeded ended = EndsBytes AtAgent bytes heeded ended

-- A call of the link failed while no whole frame was left of those that were received.
abbrev pub HasHeededAll : List ℕ → List Framed → Type 0
HasHeededAll bytes heeded = (rest : List ℕ) × Hears AtAgent bytes heeded rest × IsBegun AtAgent rest

-- These frames were due and so many of them sent: all, but for the last one where the connection ended for its link or
-- for want of memory.
abbrev pub MayMiss : Ended → List Framed → Type 0
MayMiss LinkFault missing = length missing ≤ 1
MayMiss Memory missing = length missing ≤ 1
MayMiss ended missing = missing ≡ []

-- the calls on the hall, from the one by which the agent joined
abbrev pub joined_calls : Kind → List Round → List HallCall → List HallCall
joined_calls kind rounds last = Join (record { kind = kind; result = Ok tt }) ∷ (rounds_calls kind rounds ++ last)

-- ---- an agent that has joined

-- a round whose question is open, if there is one
abbrev pub IsRound : List Round → Type 0
IsRound open_round = (round : Round) × (open_round ≡ round ∷ [])

-- and has been for as many turns as an agent is given
abbrev pub IsLateRound : List Round → Type 0
IsLateRound open_round = (round : Round) × (open_round ≡ round ∷ []) × IsLate round

-- these frames came first, and more may have come
abbrev pub HasBegun : List ℕ → List Framed → Type 0
HasBegun bytes heeded = (more : List Framed) × (rest : List ℕ) × Hears AtAgent bytes (heeded ++ more) rest

-- the call of `next` that gave none
abbrev pub refused_next : Kind → NextRefusal → List HallCall
refused_next kind refusal = Next (record { kind = kind; result = Err refusal }) ∷ []

-- Why a connection ended as `Closed`, with these frames heeded of these bytes: the input ended between two frames while
-- a question was open; the agent had not answered the question in time; or its link was found down while nothing was
-- asked.
pub data Closes (kind : Kind) (bytes : List ℕ) (heeded : List Framed) (open_round : List Round) (last : List HallCall)
    (marks : LinkMarks) :
    Type 0 where
  at_end : IsRound open_round → last ≡ [] → Hears AtAgent bytes heeded [] → marks.has_ended ≡ true
      → Closes kind bytes heeded open_round last marks
  too_late : IsLateRound open_round → last ≡ [] → HasBegun bytes heeded → Closes kind bytes heeded open_round last marks
  has_left : open_round ≡ [] → last ≡ refused_next kind Left → HasBegun bytes heeded → marks.is_down ≡ true
      → Closes kind bytes heeded open_round last marks

-- Where the connection ended so: which frames were heeded of the bytes, which question was open, which call of `next`
-- gave none, and what the link was found to be.
abbrev pub EndsAsking : Kind → Ended → List ℕ → List Framed → List Round → List HallCall → LinkMarks → Type 0
EndsAsking kind Closed bytes heeded open_round last marks = Closes kind bytes heeded open_round last marks
EndsAsking kind (Cut count) bytes heeded open_round last marks =
    IsRound open_round × (last ≡ []) × EndsHeeding bytes heeded (Cut count) × (marks.has_ended ≡ true)
EndsAsking kind (BadFrame refusal) bytes heeded open_round last marks =
    IsRound open_round × (last ≡ []) × EndsHeeding bytes heeded (BadFrame refusal)
EndsAsking kind Stopped bytes heeded open_round last marks =
    (open_round ≡ []) × (last ≡ refused_next kind NoneIsGiven) × HasBegun bytes heeded
EndsAsking kind LinkFault bytes heeded open_round last marks = (last ≡ []) × HasBegun bytes heeded
EndsAsking kind Memory bytes heeded open_round last marks =
    ((last ≡ []) ⊎ ((open_round ≡ []) × (refusal : NextRefusal) × (last ≡ refused_next kind refusal)))
    × HasBegun bytes heeded
EndsAsking kind (Hung entered now) bytes heeded open_round last marks = ⊥
EndsAsking kind (Strayed number found) bytes heeded open_round last marks = ⊥

-- A look at the link may raise its count of failures, which never falls. A connection that ended for a failed call was
-- ended by the last that was counted.
abbrev pub RaisesFaults : Ended → ℕ → ℕ → Type 0
RaisesFaults ended before now = (between : ℕ) × (before ≤ between) × (now ≡ faults_after ended between)

-- The agent registered and joined; it was asked one question after the other, each of which was answered or found
-- withdrawn before the next but for the last; each answer was handed to the hall, and of each withdrawn question the
-- agent was told.
pub record Asks (registration : Registration) (start now : AgentSide) (ended : Ended) : Type 0 where
  pub received : List ℕ
  pub rounds : List Round
  -- the round that has no answer to its question, if there is one
  pub open_round : List Round
  pub last : List HallCall
  pub sent : List Framed
  pub missing : List Framed
  pub whole : AllByRecursion IsWhole rounds
  pub unanswered : AllByRecursion IsOpen open_round
  pub one : length open_round ≤ 1
  pub asking : EndsAsking registration.kind ended received
      (register_frame registration ∷ rounds_frames (rounds ++ open_round)) open_round last now.marks
  pub all : ended ≡ LinkFault → missing ≡ []
      → HasHeededAll received (register_frame registration ∷ rounds_frames (rounds ++ open_round))
  pub due : registered_frame registration ∷ rounds_told registration.kind (rounds ++ open_round) ≡ sent ++ missing
  pub missed : MayMiss ended missing
  pub carried : Carried start.traffic now.traffic received (flat_map spelling sent)
  pub tally : now.tally ≡ after_calls (joined_calls registration.kind (rounds ++ open_round) last) start.tally
  pub calls : AppendsCalls start.calls (joined_calls registration.kind (rounds ++ open_round) last) now.calls
  pub faults : RaisesFaults ended start.faults now.faults
  pub ends : now.marks.ends ≡ start.marks.ends

-- ---- a whole connection

-- an agent that has not registered is not told of what the hall does
abbrev pub EndsUnregistered : Ended → Type 0
EndsUnregistered (Hung entered now) = ⊥
EndsUnregistered Stopped = ⊥
EndsUnregistered (Strayed number found) = ⊥
EndsUnregistered ended = Unit {0}

-- no agent registered
pub record IsUnregistered (result : Ended) (start now : AgentSide) : Type 0 where
  pub received : List ℕ
  pub ended_so : EndsUnregistered result
  pub bytes : EndsHeeding received [] result
  pub all : result ≡ LinkFault → HasHeededAll received []
  pub carried : Carried start.traffic now.traffic received []
  pub tally : now.tally ≡ start.tally
  pub calls : now.calls ≡ start.calls
  pub faults : now.faults ≡ faults_after result start.faults
  pub at_end : IsAtEnd result now.marks
  pub ends : now.marks.ends ≡ start.marks.ends

-- what an agent is told that was not taken in, and how its connection ends
abbrev pub TellsRefusal : Registration → RegisterRefusal → Ended → List Framed → Type 0
TellsRefusal registration (KindTaken kind) Closed sent = sent ≡ taken_frame registration ∷ []
TellsRefusal registration (KindTaken kind) LinkFault sent = sent ≡ []
TellsRefusal registration (KindTaken kind) Memory sent = sent ≡ []
TellsRefusal registration Full Closed sent = sent ≡ taken_frame registration ∷ []
TellsRefusal registration Full LinkFault sent = sent ≡ []
TellsRefusal registration Full Memory sent = sent ≡ []
TellsRefusal registration NoneComes Stopped sent = sent ≡ []
TellsRefusal registration (NoRoom error) Memory sent = sent ≡ []
TellsRefusal registration refusal ended sent = ⊥

-- the hall did not take the agent in
pub record IsUnjoined (result : Ended) (start now : AgentSide) : Type 0 where
  pub registration : Registration
  pub received : List ℕ
  pub refusal : RegisterRefusal
  pub sent : List Framed
  pub told : TellsRefusal registration refusal result sent
  pub bytes : (more : List Framed) × (rest : List ℕ) × Hears AtAgent received (register_frame registration ∷ more) rest
  pub carried : Carried start.traffic now.traffic received (flat_map spelling sent)
  pub tally : now.tally ≡ after_join (record { kind = registration.kind; result = Err refusal }) start.tally
  pub calls : AppendsCalls start.calls (Join (record { kind = registration.kind; result = Err refusal }) ∷ []) now.calls
  pub faults : now.faults ≡ faults_after result start.faults
  pub ends : now.marks.ends ≡ start.marks.ends

-- A connection of an agent: none registered; or the hall did not take it in; or it was asked, and left at the end,
-- once.
pub data Serves (result : Ended) (start now : AgentSide) : Type 0 where
  unregistered : IsUnregistered result start now → Serves result start now
  unjoined : IsUnjoined result start now → Serves result start now
  joined : (registration : Registration) (last : AgentSide) → Asks registration start last result
      → now ≡ record last { tally = after_part registration.kind last.tally } → Serves result start now
