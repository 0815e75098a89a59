-- The primaries are made those of the set in the backups, and the guard is taken away: whatever a stop leaves stands
-- for that set.
use Rattle.std.proofs.Common.{◌≡◌, ℕ, true, List, [], ◌∷◌, ◌++◌, map, Some, None, Ok, inl, inr, refl, sym, ◌∙◌, subst}
use Rattle.std.proofs.lemmas.Bool.{and_parts}
use Rattle.std.specs.List.{AllByRecursion, list_all}
use Rattle.desk_ports.specs.declared.file_sets.SetFile.{SetFile}
use Rattle.desk_ports.specs.FileMap.{FileMap, names_of}
use Rattle.desk_ports.specs.Disk.{DiskState, MayLeave, IsTouchedOnly, with_all_durable}
use Rattle.guard_files.specs.OwnName.{guard_name, list_name, primary_name, backup_name, is_backup, is_listable}
use Rattle.guard_files.specs.ListFile.{are_listable}
use Rattle.guard_files.specs.Recovery.{backup_set, recover, names_at}
use Rattle.guard_files.specs.parts.Changes.{Change, changed, after, writes, removals, list_write, set_writes, primary_changes, guard_down, Holds}
use Rattle.guard_files.proofs.Names.{listable, is_backup-backup}
use Rattle.guard_files.proofs.Rows.{touched_only-after}
use Rattle.guard_files.proofs.Sets.{changed-append, content-same, content-other, primary-same, holds_written, primaries_read}
use Rattle.guard_files.proofs.Stages.{IsPlain, InBackups, InPrimaries, left_in_primaries, left_at_guard, PrimariesStand, recover-unguarded, recover-guarded, recover-either, list_plain, list_not_guard, all_untouched}

-- changes of a set's files, of names that are removed
pub in_primaries-append : (first second : List Change) → InPrimaries first → InPrimaries second
    → InPrimaries (first ++ second)
in_primaries-append [] second all more = more
in_primaries-append (change ∷ first) second all more = (all.0, in_primaries-append first second all.1 more)

pub in_backups-append : (first second : List Change) → InBackups first → InBackups second → InBackups (first ++ second)
in_backups-append [] second all more = more
in_backups-append (change ∷ first) second all more = (all.0, in_backups-append first second all.1 more)

pub removals_plain : (names : List (List ℕ)) → AllByRecursion IsPlain names → InPrimaries (removals names)
removals_plain [] plain = tt
removals_plain (name ∷ names) plain = (plain.0, removals_plain names plain.1)

pub removals_backups : (names : List (List ℕ)) → AllByRecursion (λ name. is_backup name ≡ true) names
    → InBackups (removals names)
removals_backups [] backups = tt
removals_backups (name ∷ names) backups = (backups.0, removals_backups names backups.1)

files_plain : (set : List SetFile) → list_all is_listable (names_of set) ≡ true → InPrimaries (writes primary_name set)
files_plain [] all = tt
files_plain (file ∷ rest) all =
    let both = and_parts _ _ all in
    let is = listable file.name both.0 in (record { plain = is.plain; not_guard = is.not_guard }, files_plain rest both.1)

files_backups : (set : List SetFile) → InBackups (writes backup_name set)
files_backups [] = tt
files_backups (file ∷ rest) = (is_backup-backup file.name, files_backups rest)

pub set_writes-backups : (set : List SetFile) → InBackups (set_writes backup_name set)
set_writes-backups set =
    in_backups-append (writes backup_name set) (list_write backup_name set ∷ []) (files_backups set) (is_backup-backup list_name, tt)

pub primary_changes-plain : (gone : List (List ℕ)) (set : List SetFile) → AllByRecursion IsPlain gone
    → are_listable (names_of set) ≡ true
    → InPrimaries (primary_changes gone set)
primary_changes-plain gone set plain may =
    in_primaries-append (removals gone) (set_writes primary_name set) (removals_plain gone plain)
    (in_primaries-append (writes primary_name set) (list_write primary_name set ∷ []) (files_plain set (and_parts _ _ may).0)
    (record { plain = list_plain; not_guard = list_not_guard }, tt))

pub names_backups : (names : List (List ℕ)) → AllByRecursion (λ name. is_backup name ≡ true) (map backup_name names)
names_backups [] = tt
names_backups (name ∷ names) = (is_backup-backup name, names_backups names)

-- where all is durable, what is read is what a stop leaves
pub durable_only : (state : DiskState) → IsTouchedOnly (with_all_durable state)
durable_only state name none = refl

-- a plain name that holds a file still holds it where the guard and backups changed
kept_plain : (set : List SetFile) (files others : FileMap) → ((name : List ℕ) → IsPlain name → others name ≡ files name)
    → list_all is_listable (names_of set) ≡ true
    → AllByRecursion (λ file. files (primary_name file.name) ≡ Some file.bytes) set
    → AllByRecursion (λ file. others (primary_name file.name) ≡ Some file.bytes) set
kept_plain [] files others same all holds = tt
kept_plain (file ∷ rest) files others same all holds =
    let both = and_parts _ _ all in
    let is = listable file.name both.0 in
    (same file.name (record { plain = is.plain; not_guard = is.not_guard }) ∙ holds.0, kept_plain rest files others same both.1 holds.1)

pub holds_plain : (set : List SetFile) (files others : FileMap)
    → ((name : List ℕ) → IsPlain name → others name ≡ files name)
    → are_listable (names_of set) ≡ true → Holds primary_name set files → Holds primary_name set others
holds_plain set files others same may holds = record {
  list = same list_name (record { plain = list_plain; not_guard = list_not_guard }) ∙ holds.list;
  each = kept_plain set files others same (and_parts _ _ may).0 holds.each;
}

module _ (state : DiskState) (bytes : List ℕ) (set : List SetFile) (gone : List (List ℕ)) (guarded : state.current guard_name ≡ Some bytes)
    (backups : backup_set state.current ≡ Ok (Some set)) (may : are_listable (names_of set) ≡ true) (plain : AllByRecursion IsPlain gone) where
  abbrev pub renewed : DiskState
  renewed = after (primary_changes gone set) (with_all_durable state)

  abbrev pub lowered : DiskState
  lowered = after guard_down (with_all_durable renewed)

  -- while the primaries are written the backups stand
  pub left_while_renewed : (left : FileMap) → MayLeave renewed left → recover left ≡ Ok (Some set)
  left_while_renewed left leaves =
      let stands = left_in_primaries (primary_changes gone set) (primary_changes-plain gone set plain may) state left leaves in
      recover-guarded left bytes (stands.guard ∙ guarded) ∙ stands.same ∙ backups

  renewed_leaves : MayLeave renewed renewed.current
  renewed_leaves = touched_only-after (primary_changes gone set) (with_all_durable state) (durable_only state)

  renewed_backups : backup_set renewed.current ≡ Ok (Some set)
  renewed_backups =
      (left_in_primaries (primary_changes gone set) (primary_changes-plain gone set plain may) state renewed.current renewed_leaves).same ∙ backups

  pub renewed_holds : Holds primary_name set renewed.current
  renewed_holds =
      subst (λ files. Holds primary_name set files) (sym (changed-append (removals gone) (set_writes primary_name set) state.current))
      (holds_written primary_name primary-same set (changed (removals gone) state.current) may)

  -- while the guard is taken away both stand
  pub left_while_lowered : (left : FileMap) → MayLeave lowered left → recover left ≡ Ok (Some set)
  left_while_lowered left leaves =
      let both = left_at_guard None renewed left leaves in
      elim (recover-either left) [
        | inl counts ↦ counts ∙ both.backups ∙ renewed_backups
        | inr counts ↦ counts ∙ both.primaries ∙ primaries_read set renewed.current may renewed_holds
      ]

  pub lowered_guard : lowered.current guard_name ≡ None
  lowered_guard = content-same renewed.current guard_name None

  pub lowered_holds : Holds primary_name set lowered.current
  lowered_holds =
      holds_plain set renewed.current lowered.current
      (λ name is. content-other renewed.current guard_name name None (λ same. is.not_guard (sym same))) may renewed_holds

  pub lowered_stands : PrimariesStand (with_all_durable lowered)
  lowered_stands = record { unguarded = lowered_guard; guard_free = refl; free = all_untouched (names_at primary_name lowered.current) }

  -- and then the primaries alone
  pub lowered_recovers : recover lowered.current ≡ Ok (Some set)
  lowered_recovers = recover-unguarded lowered.current lowered_guard ∙ primaries_read set lowered.current may lowered_holds
