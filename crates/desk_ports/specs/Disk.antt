-- What a disk tells: what is read from it now, what is durable, and which names were touched since.
use Rattle.std.specs.Prelude.{◌≡◌, ◌⊎◌, ℕ, true, false, List, Option, Some}
use Rattle.std.specs.Str.{bytes_eq}
use Rattle.desk_ports.specs.FileMap.{FileMap, NameSet, no_names, with_name, with_content, AgreeOutside, AreNamesOf}

-- The map that is read now; the map that was durable at the last sync; and the names touched by a write or a removal
-- since.
pub record DiskState : Type 0 where
  pub current : FileMap
  pub durable : FileMap
  pub touched : NameSet

-- What is read now differs from what is durable at touched names alone.
abbrev pub IsTouchedOnly : DiskState → Type 0
IsTouchedOnly state = AgreeOutside state.touched state.current state.durable

-- A stop now may leave this map: it is as the durable one at every untouched name. A touched name may hold any bytes,
-- or none.
abbrev pub MayLeave : DiskState → FileMap → Type 0
MayLeave state left = AgreeOutside state.touched left state.durable

-- the state after the name was given this content, a file's bytes or nothing
abbrev pub with_touched : DiskState → List ℕ → Option (List ℕ) → DiskState
with_touched state name content = record {
  current = with_content state.current name content;
  durable = state.durable;
  touched = with_name state.touched name;
}

-- the state after all is made durable
abbrev pub with_all_durable : DiskState → DiskState
with_all_durable state = record { current = state.current; durable = state.current; touched = no_names }

-- A call on this name failed. The name holds anything or nothing now, and is touched, or the call has changed nothing.
-- All else is as before.
pub record IsDisturbedAt (before : DiskState) (name : List ℕ) (after : DiskState) : Type 0 where
  pub durable : after.durable ≡ before.durable
  pub elsewhere : (other : List ℕ) → bytes_eq name other ≡ false → after.current other ≡ before.current other
  pub untouched : (other : List ℕ) → bytes_eq name other ≡ false → after.touched other ≡ before.touched other
  pub touched : (after.touched name ≡ true) ⊎ (after ≡ before)

-- Where the disk tells its state, the fact holds of it.
abbrev pub WhereTold : Option DiskState → (DiskState → Type 0) → Type 0
WhereTold told P = (state : DiskState) → told ≡ Some state → P state

-- The call left the state as it was.
abbrev pub KeepsState : Option DiskState → Option DiskState → Type 0
KeepsState old new = WhereTold old (λ before. new ≡ Some before)

-- The call gave the name this content, a file's bytes or nothing, and touched it.
abbrev pub Gives : Option DiskState → List ℕ → Option (List ℕ) → Option DiskState → Type 0
Gives old name content new = WhereTold old (λ before. new ≡ Some (with_touched before name content))

-- The call changed nothing but this name.
abbrev pub Disturbs : Option DiskState → List ℕ → Option DiskState → Type 0
Disturbs old name new =
    WhereTold old (λ before. (after : DiskState) × (new ≡ Some after) × IsDisturbedAt before name after)

-- The call made all durable.
abbrev pub MakesDurable : Option DiskState → Option DiskState → Type 0
MakesDurable old new = WhereTold old (λ before. new ≡ Some (with_all_durable before))

-- These are the names that have a file.
abbrev pub ListsNames : Option DiskState → List (List ℕ) → Type 0
ListsNames told names = WhereTold told (λ now. AreNamesOf now.current names)

-- This is what is read at the name: a file's bytes, or nothing.
abbrev pub Reads : Option DiskState → List ℕ → Option (List ℕ) → Type 0
Reads told name content = WhereTold told (λ now. content ≡ now.current name)
