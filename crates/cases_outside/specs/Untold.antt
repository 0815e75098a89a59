-- A disk that tells no state keeps what is said of a told one.
use Rattle.std.specs.Prelude.{None, is_some}
use Rattle.std.proofs.Common.{ap}
use Rattle.std.proofs.lemmas.Bool.{false≢true}
use Rattle.desk_ports.specs.Disk.{DiskState, WhereTold}

pub untold : (P : DiskState → Type 0) → WhereTold None P
untold P state told = absurd (false≢true (ap is_some told))
