-- A store at rest: what it holds, and what a save is made of.
use Rattle.std.specs.Prelude.{◌≡◌, ◌⊎◌, ℕ, false, not, List, [], filter, Option, Some, None, Ok}
use Rattle.std.specs.List.{AllByRecursion}
use Rattle.desk_ports.specs.declared.file_sets.SetFile.{SetFile}
use Rattle.desk_ports.specs.FileMap.{FileMap, names_of}
use Rattle.desk_ports.specs.Disk.{DiskState}
use Rattle.guard_files.specs.OwnName.{guard_name, is_own}
use Rattle.guard_files.specs.ListFile.{IsCurrent}
use Rattle.guard_files.specs.Recovery.{recover, protected}
use Rattle.guard_files.specs.Holding.{is_among, own_names, OwnNamesAre}

-- The store holds this set, or none. What is durable recovers to it, no guard stands, and what the recovery rests on is
-- untouched, so that a stop leaves it. The own names of the folder are those of the set.
pub record IsSettled (held : Option (List SetFile)) (state : DiskState) : Type 0 where
  pub recovers : recover state.durable ≡ Ok held
  pub unguarded : state.durable guard_name ≡ None
  pub untouched : AllByRecursion (λ name. state.touched name ≡ false) (protected state.durable)
  pub own : OwnNamesAre (own_names held) state.current

-- What a mount, a remount and a commit leave: a store at rest, whose list is of version 2, also after a stop. A save
-- asks for no version of the list that it finds.
pub record IsLeftCurrent (held : Option (List SetFile)) (state : DiskState) : Type 0 where
  pub settled : IsSettled held state
  pub current : IsCurrent state.current
  pub durable : IsCurrent state.durable

-- the names of the held set that the next one has not, in their order
abbrev pub gone_names : Option (List SetFile) → List SetFile → List (List ℕ)
gone_names None next = []
gone_names (Some files) next = filter (λ name. not (is_among (names_of next) name)) (names_of files)

-- A save: the next set, and the names that it takes away.
pub record Save : Type 0 where
  pub set : List SetFile
  pub gone : List (List ℕ)

-- the map recovers to the set before or to the set after
abbrev pub IsBeforeOrAfter : Option (List SetFile) → Option (List SetFile) → FileMap → Type 0
IsBeforeOrAfter before next left = (recover left ≡ Ok before) ⊎ (recover left ≡ Ok next)

-- each file that is not the store's own is in the map as it was durable, where nothing had touched it
abbrev pub KeepsOthers : DiskState → FileMap → Type 0
KeepsOthers before left =
    (name : List ℕ) → is_own name ≡ false → before.touched name ≡ false → left name ≡ before.durable name

-- what a stop in a save leaves: the set before or the set after, and the files of others as they were
pub record IsInSave (before : DiskState) (held : Option (List SetFile)) (set : List SetFile) (left : FileMap) : Type 0 where
  pub sets : IsBeforeOrAfter held (Some set) left
  pub others : KeepsOthers before left

-- the disk tells a store that was left so, with this set
abbrev pub EndsSettled : List SetFile → Option DiskState → Type 0
EndsSettled set told = (after : DiskState) × (told ≡ Some after) × IsLeftCurrent (Some set) after
