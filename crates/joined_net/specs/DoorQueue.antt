-- What the doors of a kind share, beside the connections that wait.
use Rattle.std.specs.Prelude.{ℕ, ◌-◌, ◌==◌, Bool, true, false, if◌then◌else◌}
use Rattle.desk_ports.specs.Faults.{next_count}

-- how many doors stand open; how many knocks wait for an `accept`; and whether all doors of the kind were closed
pub record OpenDoors : Type 0 where
  pub open_doors : ℕ
  pub knocks : ℕ
  pub is_shut : Bool

abbrev pub no_doors : OpenDoors
no_doors = record { open_doors = 0; knocks = 0; is_shut = false }

-- after one more was opened
abbrev pub with_door : OpenDoors → OpenDoors
with_door counts = record counts { open_doors = next_count counts.open_doors; is_shut = false }

-- after one was closed: with the last one the kind is shut, and knocks that nobody met are over
abbrev pub without_door : OpenDoors → OpenDoors
without_door counts =
    if counts.open_doors - 1 == 0
    then record { open_doors = 0; knocks = 0; is_shut = true }
    else record counts { open_doors = counts.open_doors - 1; is_shut = false }

abbrev pub with_knock : OpenDoors → OpenDoors
with_knock counts = record counts { knocks = next_count counts.knocks }

-- after a knock was taken
abbrev pub without_knock : OpenDoors → OpenDoors
without_knock counts = record counts { knocks = counts.knocks - 1 }
