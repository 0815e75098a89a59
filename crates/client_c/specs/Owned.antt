-- What a handle owns.
use Rattle.std.specs.Prelude.{Option, None, Some}
use mir.Syntax.{Ty}
use base.Fml.{Fml, ftrue}
use denote.RawPtr.{Ptr}
use Rattle.std_alloc.specs.Box.Ownership.{box_owns}
use Rattle.std_heap.specs.contracts.GlobalAllocator.TheImpl.{ghosts}
use Rattle.client_core.specs.declared.machines.Machine.{Machine}
use Rattle.client_core.specs.contracts.machines.Machine as machine

-- what lets a block of the C library's memory go back, whichever handle it is
abbrev pub token : Ty → Ptr → Fml
token = ghosts.dealloc_token (record { memory = record { seal = tt } })

-- the machine at the pointer with the right to free it, or nothing
abbrev pub machine_owns : Ptr → Option Machine → Fml
machine_owns at None = ftrue
machine_owns at (Some value) = box_owns token machine.the_row at value
