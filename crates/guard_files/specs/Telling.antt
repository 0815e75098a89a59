-- Whether a disk tells its state still.
use Rattle.std.specs.Prelude.{◌≡◌, Option, Some}
use Rattle.desk_ports.specs.Disk.{DiskState, WhereTold}

-- A disk that told its state before tells it behind.
abbrev pub StillTells : Option DiskState → Option DiskState → Type 0
StillTells old new = WhereTold old (λ before. (after : DiskState) × (new ≡ Some after))
