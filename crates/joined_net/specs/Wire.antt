-- What two joined ends share.
use Rattle.std.specs.Prelude.{◌⊎◌, ◌<◌, ℕ, Bool, true, false, List, [], ◌++◌, length, drop, if◌then◌else◌, IsTrue}
use Rattle.joined_net.specs.declared.wires.Side.{Side}
use Rattle.joined_net.specs.declared.wires.Side.TheVariants.{Dialler, Door}

-- the bytes that are on their way to the dialler's end and to the door's; and whether the connection was closed
pub record WireBytes : Type 0 where
  pub to_dialler : List ℕ
  pub to_door : List ℕ
  pub is_closed : Bool

abbrev pub new_wire : WireBytes
new_wire = record { to_dialler = []; to_door = []; is_closed = false }

-- the bytes on their way to this end
abbrev pub bytes_to : Side → WireBytes → List ℕ
bytes_to Dialler wire = wire.to_dialler
bytes_to Door wire = wire.to_door

-- a read of this end waits for nothing: bytes are on their way to it, or the connection was closed
abbrev pub HasCome : Side → WireBytes → Type 0
HasCome side wire = (0 < length (bytes_to side wire)) ⊎ IsTrue wire.is_closed

-- after this end wrote these bytes: those written to a closed connection go nowhere
abbrev pub with_written : Side → List ℕ → WireBytes → WireBytes
with_written side bytes wire = if wire.is_closed then wire else arriving side
  where
    arriving : Side → WireBytes
    arriving Dialler = record wire { to_door = wire.to_door ++ bytes }
    arriving Door = record wire { to_dialler = wire.to_dialler ++ bytes }

-- after this end read so many bytes
abbrev pub with_read : Side → ℕ → WireBytes → WireBytes
with_read Dialler count wire = record wire { to_dialler = drop count wire.to_dialler }
with_read Door count wire = record wire { to_door = drop count wire.to_door }

-- after it was closed: what was written before may still be read
abbrev pub with_closed : WireBytes → WireBytes
with_closed wire = record wire { is_closed = true }
