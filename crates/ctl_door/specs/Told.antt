-- A policy state as a service tells it: the parts of its files, and then its commit.
use Rattle.std.specs.Prelude.{◌≡◌, ℕ, List, [], ◌∷◌, ◌++◌, map, Option, Some}
use Rattle.link_ports.specs.Told.{IfTold}
use Rattle.link_ports.specs.Traffic.{Traffic, with_received}
use Rattle.wire_reading.specs.Stream.{Hears}
use Rattle.wire_fields.specs.declared.messages.Framed.{Framed}
use Rattle.wire_fields.specs.declared.messages.Message.TheVariants.{StateFile, StateEnd}
use Rattle.wire_fields.specs.declared.operations.Heard.TheVariants.{Replies}
use Rattle.ctl_door.specs.declared.frames.Part.{Part}
use Rattle.ctl_door.specs.declared.frames.Told.{Told}
use Rattle.ctl_door.specs.declared.frames.Told.TheVariants as told

-- the frame that tells a part
abbrev pub part_frame : Part → Framed
part_frame part = record { sequence = 0; message = StateFile part.name part.bytes }

-- the frame that tells the commit
abbrev pub end_frame : ℕ → Framed
end_frame commit = record { sequence = 0; message = StateEnd commit }

-- the bytes received are such
abbrev pub TookBytes : (List ℕ → Type 0) → Option Traffic → Option Traffic → Type 0
TookBytes P old new = IfTold old (λ before. (bytes : List ℕ) × P bytes × (new ≡ Some (with_received bytes before)))

-- the bytes are the frames of these parts, and none is behind them
abbrev pub AreParts : List Part → List ℕ → Type 0
AreParts parts bytes = Hears Replies bytes (map part_frame parts) []

-- the bytes are the frames of these parts and of the commit, and no byte is behind them
abbrev pub AreState : List Part → ℕ → List ℕ → Type 0
AreState parts commit bytes = Hears Replies bytes (map part_frame parts ++ end_frame commit ∷ []) []

-- such bytes were received
abbrev pub TookState : List Part → ℕ → Option Traffic → Option Traffic → Type 0
TookState parts commit old new = TookBytes (AreState parts commit) old new

-- what was taken out of a frame is what the frame says
abbrev pub Tells : Framed → Told → Type 0
Tells framed (told.Part part) = framed ≡ part_frame part
Tells framed (told.End commit) = framed ≡ end_frame commit
Tells framed (told.Refused why) = Unit {0}

-- what was made of a part is a copy of it, or why there is none
abbrev pub IsPart : List ℕ → List ℕ → Told → Type 0
IsPart name bytes (told.Part part) = part ≡ record { name = name; bytes = bytes }
IsPart name bytes (told.End commit) = ⊥
IsPart name bytes (told.Refused why) = Unit {0}
