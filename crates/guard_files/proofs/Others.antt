-- The files that are not the store's own: no step of a save or of a mount changes them.
use Rattle.std.proofs.Common.{◌≡◌, ℕ, Bool, true, false, not, ◌&&◌, ◌||◌, List, [], ◌∷◌, ◌++◌, map, filter, Option, Some, None, Ok, inl, inr, cond, refl, sym, ◌∙◌, ap}
use Rattle.std.proofs.lemmas.Bool.{and_parts, and_from, both_ways, or_cases}
use Rattle.std.specs.List.{AllByRecursion, list_all}
use Rattle.desk_ports.specs.declared.file_sets.SetFile.{SetFile}
use Rattle.desk_ports.specs.FileMap.{FileMap, names_of}
use Rattle.desk_ports.specs.Disk.{DiskState, MayLeave, IsTouchedOnly, with_all_durable}
use Rattle.guard_files.specs.OwnName.{guard_name, list_name, primary_name, backup_name, is_backup, front, is_primary, is_own, is_listable}
use Rattle.guard_files.specs.ListFile.{are_listable}
use Rattle.guard_files.specs.Recovery.{primary_set}
use Rattle.guard_files.specs.Holding.{is_among}
use Rattle.guard_files.specs.Settled.{gone_names, KeepsOthers}
use Rattle.guard_files.specs.Mounted.{goes, is_left_over, AreOthersOf}
use Rattle.guard_files.specs.parts.Changes.{Change, changed, after, writes, removals, list_write, set_writes, primary_changes, guard_up, guard_down, backups_away}
use Rattle.guard_files.proofs.Names.{listable, is_backup-backup, front-backup}
use Rattle.guard_files.proofs.Sets.{changed-other}
use Rattle.guard_files.proofs.Stages.{Apart, left_as_durable, list_plain}
use Rattle.guard_files.proofs.Reading.{primaries_may}
use Rattle.guard_files.proofs.Leaving.{all_filtered}

-- each change is of an own name
abbrev pub AllOwn : List Change → Type 0
AllOwn changes = AllByRecursion (λ change. is_own change.0 ≡ true) changes

own_apart : (changes : List Change) → AllOwn changes → (name : List ℕ) → is_own name ≡ false → Apart changes name
own_apart [] own name foreign = tt
own_apart (change ∷ changes) own name foreign =
    (λ same. both_ways (is_own name) foreign (ap is_own (sym same) ∙ own.0), own_apart changes own.1 name foreign)

-- ---- the names that are changed

or_second : (a b : Bool) → b ≡ true → (a || b) ≡ true
or_second true b is = refl
or_second false b is = is

own_guard : is_own guard_name ≡ true
unfolding is_own is_primary
own_guard = refl

own_list : is_own list_name ≡ true
unfolding is_own is_primary
own_list = refl

own_backup : (name : List ℕ) → is_own name ≡ true → is_backup name ≡ false → is_own (backup_name name) ≡ true
unfolding is_own
own_backup name own plain =
    elim (or_cases (is_primary name) (is_backup name && is_primary (front name)) own) [
      | inl primary ↦
          or_second (is_primary (backup_name name)) (is_backup (backup_name name) && is_primary (front (backup_name name)))
          (and_from _ _ (is_backup-backup name) (ap is_primary (front-backup name) ∙ primary))
      | inr both ↦ absurd (both_ways (is_backup name) plain (and_parts _ _ both).0)
    ]

own_append : (first second : List Change) → AllOwn first → AllOwn second → AllOwn (first ++ second)
own_append [] second all more = more
own_append (change ∷ first) second all more = (all.0, own_append first second all.1 more)

pub own_removals : (names : List (List ℕ)) → AllByRecursion (λ name. is_own name ≡ true) names → AllOwn (removals names)
own_removals [] own = tt
own_removals (name ∷ names) own = (own.0, own_removals names own.1)

own_primaries : (set : List SetFile) → list_all is_listable (names_of set) ≡ true → AllOwn (writes primary_name set)
own_primaries [] all = tt
own_primaries (file ∷ rest) all =
    let both = and_parts _ _ all in ((listable file.name both.0).own, own_primaries rest both.1)

own_backups : (set : List SetFile) → list_all is_listable (names_of set) ≡ true → AllOwn (writes backup_name set)
own_backups [] all = tt
own_backups (file ∷ rest) all =
    let both = and_parts _ _ all in
    let is = listable file.name both.0 in (own_backup file.name is.own is.plain, own_backups rest both.1)

backup_names : (names : List (List ℕ)) → list_all is_listable names ≡ true
    → AllByRecursion (λ name. is_own name ≡ true) (map backup_name names)
backup_names [] all = tt
backup_names (name ∷ names) all =
    let both = and_parts _ _ all in
    let is = listable name both.0 in (own_backup name is.own is.plain, backup_names names both.1)

pub own_backed : (set : List SetFile) → are_listable (names_of set) ≡ true → AllOwn (set_writes backup_name set)
own_backed set may =
    own_append (writes backup_name set) (list_write backup_name set ∷ []) (own_backups set (and_parts _ _ may).0)
    (own_backup list_name own_list list_plain, tt)

pub own_renewed : (gone : List (List ℕ)) (set : List SetFile) → AllByRecursion (λ name. is_own name ≡ true) gone
    → are_listable (names_of set) ≡ true
    → AllOwn (primary_changes gone set)
own_renewed gone set own may =
    own_append (removals gone) (set_writes primary_name set) (own_removals gone own)
    (own_append (writes primary_name set) (list_write primary_name set ∷ []) (own_primaries set (and_parts _ _ may).0) (own_list, tt))

pub own_up : AllOwn guard_up
own_up = (own_guard, tt)

pub own_down : AllOwn guard_down
own_down = (own_guard, tt)

pub own_away : (set : List SetFile) → are_listable (names_of set) ≡ true
    → AllOwn (backups_away (map backup_name (names_of set)))
own_away set may =
    (own_backup list_name own_list list_plain, own_removals (map backup_name (names_of set)) (backup_names (names_of set) (and_parts _ _ may).0))

-- the names that go
some_own : (next : List (List ℕ)) (names : List (List ℕ)) → list_all is_listable names ≡ true
    → AllByRecursion (λ name. is_own name ≡ true) (filter (λ name. not (is_among next name)) names)
some_own next [] all = tt
some_own next (name ∷ names) all =
    let both = and_parts _ _ all in
    one_own (not (is_among next name)) name (filter (λ name. not (is_among next name)) names) (listable name both.0).own
    (some_own next names both.1)
  where
    one_own : (goes : Bool) (name : List ℕ) (rest : List (List ℕ)) → is_own name ≡ true
        → AllByRecursion (λ name. is_own name ≡ true) rest
        → AllByRecursion (λ name. is_own name ≡ true) (cond goes (name ∷ rest) rest)
    one_own true name rest is more = (is, more)
    one_own false name rest is more = more

pub own_gone : (held : Option (List SetFile)) (set : List SetFile) (files : FileMap) → primary_set files ≡ Ok held
    → AllByRecursion (λ name. is_own name ≡ true) (gone_names held set)
own_gone None set files is = tt
own_gone (Some held) set files is = some_own (names_of set) (names_of held) (and_parts _ _ (primaries_may files held is)).0

pub own_going : (held : Option (List SetFile)) (names : List (List ℕ))
    → AllByRecursion (λ name. is_own name ≡ true) (filter (goes held) names)
own_going held names =
    all_filtered (goes held) (λ name. is_own name ≡ true) names (λ name is. (and_parts _ _ (and_parts _ _ is).1).1)

pub own_leftover : (held : Option (List SetFile)) (names : List (List ℕ)) → AllOwn (removals (filter (is_left_over true held) names))
own_leftover held names =
    own_removals (filter (is_left_over true held) names)
    (all_filtered (is_left_over true held) (λ name. is_own name ≡ true) names (λ name is. (and_parts _ _ is).1))

pub own_rest : (held : Option (List SetFile)) (names : List (List ℕ)) → AllOwn (removals (filter (is_left_over false held) names))
own_rest held names =
    own_removals (filter (is_left_over false held) names)
    (all_filtered (is_left_over false held) (λ name. is_own name ≡ true) names (λ name is. (and_parts _ _ (and_parts _ _ is).1).1))

-- ---- a row of changes from where all is durable

pub others_left : (changes : List Change) → AllOwn changes → (state : DiskState) (left : FileMap)
    → MayLeave (after changes (with_all_durable state)) left → AreOthersOf state.current left
others_left changes own state left may = λ name foreign.
    left_as_durable changes (with_all_durable state) left name (own_apart changes own name foreign) refl may

pub others_changed : (changes : List Change) → AllOwn changes → (files : FileMap) → AreOthersOf files (changed changes files)
others_changed changes own files = λ name foreign. changed-other changes files name (own_apart changes own name foreign)

pub others_then : (files mid left : FileMap) → AreOthersOf files mid → AreOthersOf mid left → AreOthersOf files left
others_then files mid left first second = λ name foreign. second name foreign ∙ first name foreign

-- ---- a row from any state, where nothing had touched the file of another

abbrev pub CarriesOthers : DiskState → DiskState → Type 0
CarriesOthers before mid =
    (name : List ℕ) → is_own name ≡ false → before.touched name ≡ false
    → (mid.touched name ≡ false) × (mid.durable name ≡ before.durable name)

pub carries_start : (before : DiskState) → CarriesOthers before before
carries_start before = λ name foreign free. (free, refl)

pub carries_next : (before mid : DiskState) (changes : List Change) → AllOwn changes → IsTouchedOnly mid
    → CarriesOthers before mid → CarriesOthers before (with_all_durable (after changes mid))
carries_next before mid changes own only carries = λ name foreign free.
    let so_far = carries name foreign free in (
      refl,
      changed-other changes mid.current name (own_apart changes own name foreign) ∙ only name so_far.0 ∙ so_far.1,
    )

pub others_in : (before mid : DiskState) (changes : List Change) → AllOwn changes → CarriesOthers before mid
    → (left : FileMap) → MayLeave (after changes mid) left → KeepsOthers before left
others_in before mid changes own carries left may = λ name foreign free.
    let so_far = carries name foreign free in
    left_as_durable changes mid left name (own_apart changes own name foreign) so_far.0 may ∙ so_far.1
