-- A state that two calls keep.
use Rattle.std.proofs.Common.{Option}
use Rattle.desk_ports.specs.Disk.{DiskState, KeepsState}

pub keeps_then : (old between new : Option DiskState) → KeepsState old between → KeepsState between new → KeepsState old new
keeps_then old between new first then before told = then before (first before told)
