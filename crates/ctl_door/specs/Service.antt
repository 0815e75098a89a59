-- What a service tells of itself: the kinds that have an agent, and then how many workers serve clients.
use Rattle.std.specs.Prelude.{◌≡◌, ℕ, List, [], ◌∷◌, ◌++◌, map, Option}
use Rattle.link_ports.specs.Told.{ChangesTold, AppendsTold}
use Rattle.link_ports.specs.Traffic.{Traffic, with_sent, IsSilent}
use Rattle.cynara_keys.specs.declared.results.Kind.{Kind}
use Rattle.wire_reading.specs.Frame.{spelling}
use Rattle.wire_reading.specs.Stream.{Hears}
use Rattle.wire_fields.specs.declared.messages.Framed.{Framed}
use Rattle.wire_fields.specs.declared.messages.Message.TheVariants.{ReadService, AgentHere, ServiceEnd}
use Rattle.wire_fields.specs.declared.operations.Heard.TheVariants.{Replies}
use Rattle.ctl_door.specs.declared.service_frames.ServiceSeen.{ServiceSeen}
use Rattle.ctl_door.specs.declared.service_frames.Said.{Said}
use Rattle.ctl_door.specs.declared.service_frames.Said.TheVariants as said
use Rattle.ctl_door.specs.Told.{TookBytes}

-- the question
abbrev pub question : Framed
question = record { sequence = 0; message = ReadService }

-- the frame that tells of an agent
abbrev pub agent_frame : Kind → Framed
agent_frame kind = record { sequence = 0; message = AgentHere kind }

-- the frame that tells of the workers
abbrev pub end_frame : ℕ → ℕ → Framed
end_frame workers served = record { sequence = 0; message = ServiceEnd workers served }

-- the bytes are the frames of these kinds, and none is behind them
abbrev pub AreAgents : List Kind → List ℕ → Type 0
AreAgents kinds bytes = Hears Replies bytes (map agent_frame kinds) []

-- the bytes are the frames of these kinds and of the workers, and no byte is behind them
abbrev pub AreService : List Kind → ℕ → ℕ → List ℕ → Type 0
AreService kinds workers served bytes = Hears Replies bytes (map agent_frame kinds ++ end_frame workers served ∷ []) []

-- such bytes were received
abbrev pub Tells : ServiceSeen → Option Traffic → Option Traffic → Type 0
Tells seen old new = TookBytes (AreService seen.kinds.items seen.workers seen.served) old new

-- what was taken out of a frame is what the frame says
abbrev pub Says : Framed → Said → Type 0
Says framed (said.Agent kind) = framed ≡ agent_frame kind
Says framed (said.End workers served) = framed ≡ end_frame workers served
Says framed (said.Refused why) = Unit {0}

-- The question was sent, and what was received since tells this.
pub record Asks (seen : ServiceSeen) (old new : Option Traffic) : Type 0 where
  pub between : Option Traffic
  pub sent : ChangesTold old (with_sent (spelling question)) between
  pub tells : Tells seen between new

module _ {N L : Type 0} (traffic : L → Option Traffic) (given_back : N → Option (List L)) where
  -- the same over a link that was dialled for it, and given back
  pub record AsksOver (seen : ServiceSeen) (before after : N) : Type 0 where
    pub base : L
    pub link : L
    pub silent : IsSilent (traffic base)
    pub asks : Asks seen (traffic base) (traffic link)
    pub given : AppendsTold (given_back before) link (given_back after)
