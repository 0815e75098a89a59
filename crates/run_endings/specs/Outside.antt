-- What a run sees of the outside, before it or after it: what each object tells, and its count of faults.
use Rattle.std.specs.Prelude.{◌≡◌, ℕ, List, Option, Some, None}
use Rattle.desk_ports.specs.FileMap.{FileMap}
use Rattle.desk_ports.specs.Disk.{DiskState}

-- a source: the bytes that are left, where it tells them
pub record SourceSeen : Type 0 where
  pub left : Option (List ℕ)
  pub faults : ℕ

-- a sink: the bytes that it has taken, where it tells them
pub record SinkSeen : Type 0 where
  pub taken : Option (List ℕ)
  pub faults : ℕ

-- a disk: its state, where it tells it, its moment, and which maps a stop may have left at a moment since an earlier
-- one
pub record DiskSeen : Type 1 where
  pub state : Option DiskState
  pub moment : ℕ
  pub left_since : ℕ → FileMap → Type 0
  pub faults : ℕ

-- a net
pub record NetSeen : Type 0 where
  pub faults : ℕ

pub record Outside : Type 1 where
  pub source : SourceSeen
  pub sink : SinkSeen
  pub disk : DiskSeen
  pub net : NetSeen

-- ---- of the objects, by what they tell

abbrev pub source_seen : {S : Type 0} → (S → Option (List ℕ)) → (S → ℕ) → S → SourceSeen
source_seen left faults source = record { left = left source; faults = faults source }

abbrev pub sink_seen : {K : Type 0} → (K → Option (List ℕ)) → (K → ℕ) → K → SinkSeen
sink_seen taken faults sink = record { taken = taken sink; faults = faults sink }

abbrev pub disk_seen : {D : Type 0} → (D → Option DiskState) → (D → ℕ) → (D → ℕ → FileMap → Type 0) → (D → ℕ) → D
    → DiskSeen
disk_seen state moment left_since faults disk =
    record { state = state disk; moment = moment disk; left_since = left_since disk; faults = faults disk }

-- the one place where an outside is made
abbrev pub seen : SourceSeen → SinkSeen → DiskSeen → NetSeen → Outside
seen source sink disk net = record { source = source; sink = sink; disk = disk; net = net }

-- A source that tells its content had this input, and these bytes are left of it.
abbrev pub HadInput : Option (List ℕ) → Option (List ℕ) → List ℕ → List ℕ → Type 0
HadInput None after input left = Unit {0}
HadInput (Some before) after input left = (before ≡ input) × (after ≡ Some left)
