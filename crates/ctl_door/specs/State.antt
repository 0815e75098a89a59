-- The policy state that a service tells.
use Rattle.std.specs.Prelude.{List, Option}
use Rattle.link_ports.specs.Told.{ChangesTold, AppendsTold}
use Rattle.link_ports.specs.Traffic.{Traffic, with_sent, IsSilent}
use Rattle.wire_reading.specs.Frame.{spelling}
use Rattle.wire_fields.specs.declared.messages.Framed.{Framed}
use Rattle.wire_fields.specs.declared.messages.Message.TheVariants.{ReadState}
use Rattle.desk_state.specs.DeskState.{DeskState}
use Rattle.set_text.specs.Files.{files}
use Rattle.ctl_door.specs.declared.frames.Part.{Part}
use Rattle.ctl_door.specs.Joining.{AreJoined}
use Rattle.ctl_door.specs.Told.{TookState}

-- the question for a state
abbrev pub question : Framed
question = record { sequence = 0; message = ReadState }

-- The frames that were received tell the parts of this state's files, in turn, and then its commit.
pub record Tells (desk : DeskState) (old new : Option Traffic) : Type 0 where
  pub parts : List Part
  pub joined : AreJoined parts (files desk)
  pub took : TookState parts desk.commit old new

-- The question was sent, and what was received since tells the state.
pub record Asks (desk : DeskState) (old new : Option Traffic) : Type 0 where
  pub between : Option Traffic
  pub sent : ChangesTold old (with_sent (spelling question)) between
  pub tells : Tells desk between new

module _ {N L : Type 0} (traffic : L → Option Traffic) (given_back : N → Option (List L)) where
  -- the same over a link that was dialled for it, and given back
  pub record AsksOver (desk : DeskState) (before after : N) : Type 0 where
    pub base : L
    pub link : L
    pub silent : IsSilent (traffic base)
    pub asks : Asks desk (traffic base) (traffic link)
    pub given : AppendsTold (given_back before) link (given_back after)
