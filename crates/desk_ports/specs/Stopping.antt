-- What a stop leaves of a disk in memory, as a number says.
use Rattle.std.specs.Prelude.{◌≡◌, ◌↔◌, ◌&&◌, ◌==◌, ◌/◌, ◌%◌, ℕ, Bool, true, false}
use Rattle.std.specs.Prelude.{if◌then◌else◌, List, [], length, take, fold, Option, Some, None, unwrap_or}
use Rattle.std.specs.List.{Contains}
use Rattle.std.specs.Str.{bytes_eq}
use Rattle.desk_ports.specs.FileMap.{FileMap, NamesRise, with_content, map_of}
use Rattle.desk_ports.specs.Disk.{DiskState}
use Rattle.desk_ports.specs.declared.file_sets.SetFile.{SetFile}
use Rattle.desk_ports.specs.declared.disk_calls.DiskCall.{DiskCall}
use Rattle.desk_ports.specs.declared.disk_calls.DiskCall.TheVariants.{Names, Read, Write, Remove, Sync}
use Rattle.desk_ports.specs.declared.disk_calls.RecordedCall.{RecordedCall}

-- a sync that was done
abbrev pub is_done_sync : RecordedCall → Bool
is_done_sync made = is_sync made.call && made.is_done
  where
    is_sync : DiskCall → Bool
    is_sync Names = false
    is_sync (Read name) = false
    is_sync (Write file) = false
    is_sync (Remove name) = false
    is_sync Sync = true

-- the bytes that the call gave to the name, by a write that was done or failed, or else those that were given before
abbrev pub given_by : DiskCall → List ℕ → Option (List ℕ) → Option (List ℕ)
given_by Names name given = given
given_by (Read read) name given = given
given_by (Write file) name given = if bytes_eq file.name name then Some file.bytes else given
given_by (Remove removed) name given = given
given_by Sync name given = given

-- the same, and none after a sync that was done
abbrev pub given_after : List ℕ → Option (List ℕ) → RecordedCall → Option (List ℕ)
given_after name given made = if is_done_sync made then None else given_by made.call name given

-- the bytes that the last write of the name was given, done or failed, since the last sync that was done
abbrev pub last_given : List RecordedCall → List ℕ → Option (List ℕ)
last_given calls name = fold (given_after name) None calls

-- the bytes meant for a name: those last given, or else the durable ones, or else none
abbrev pub meant_bytes : List RecordedCall → FileMap → List ℕ → List ℕ
meant_bytes calls durable name = unwrap_or (last_given calls name) (unwrap_or (durable name) [])

-- nothing, no bytes, the first half of the bytes, rounded down, or all of them, as a digit from 0 to 3 says
abbrev pub picked : ℕ → List ℕ → Option (List ℕ)
picked digit bytes =
    if digit == 0 then None
    else (if digit == 1 then Some [] else (if digit == 2 then Some (take (length bytes / 2) bytes) else Some bytes))

-- the number whose digits to the base 4 are still to be used, the lowest first, and what is left so far
pub record Picking : Type 0 where
  pub digits : ℕ
  pub left : FileMap

-- the name takes the lowest digit
abbrev pub pick_next : (List ℕ → List ℕ) → Picking → List ℕ → Picking
pick_next meant picking name = record {
  digits = picking.digits / 4;
  left = with_content picking.left name (picked (picking.digits % 4) (meant name));
}

-- what is left where each of the names in turn takes a digit of the number, and each other name holds what is durable
abbrev pub picked_map : ℕ → (List ℕ → List ℕ) → FileMap → List (List ℕ) → FileMap
picked_map pick meant durable names = (fold (pick_next meant) (record { digits = pick; left = durable }) names).left

-- These files are what a stop leaves in this state, after these calls, as the number says: the touched names, in order,
-- take its digits to the base 4, the lowest first, and each other name holds what is durable.
pub record AreLeftBy (state : DiskState) (calls : List RecordedCall) (pick : ℕ) (files : List SetFile) : Type 0 where
  pub touched : List (List ℕ)
  pub rising : NamesRise touched
  pub all : (name : List ℕ) → Contains touched name ↔ (state.touched name ≡ true)
  pub held : (name : List ℕ)
      → map_of files name ≡ picked_map pick (meant_bytes calls state.durable) state.durable touched name
