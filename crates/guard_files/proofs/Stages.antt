-- What a folder stands for at each stage of a save, whatever a stop leaves of it.
use Rattle.std.proofs.Common.{◌≡◌, ◌≢◌, ◌⊎◌, ℕ, true, false, List, [], ◌∷◌, map, Option, Some, None, is_some, cond, inl, inr, refl, sym, ◌∙◌, ap}
use Rattle.std.proofs.lemmas.Bool.{and_parts, both_ways, true≢false}
use Rattle.std.specs.List.{AllByRecursion, list_all}
use Rattle.std.specs.Str.{bytes_eq}
use Rattle.desk_ports.specs.FileMap.{FileMap, no_names}
use Rattle.desk_ports.specs.Disk.{DiskState, MayLeave, with_all_durable}
use Rattle.guard_files.specs.OwnName.{guard_name, list_name, primary_name, backup_name, is_backup, is_listable}
use Rattle.guard_files.specs.ListFile.{listed}
use Rattle.guard_files.specs.Recovery.{backup_set, primary_set, recover, names_or_none, named_by, names_at, AgreeAt}
use Rattle.guard_files.specs.parts.Changes.{Change, after}
use Rattle.guard_files.proofs.Alike.{backups_alike, primaries_alike}
use Rattle.guard_files.proofs.Names.{is_backup-backup, listable}
use Rattle.guard_files.proofs.Versions.{listed-listable}
use Rattle.guard_files.proofs.Sets.{touching-other}

-- the names that a list file names may stand in one
named_listable : (list : Option (List ℕ)) → list_all is_listable (named_by list) ≡ true
named_listable None = refl
named_listable (Some bytes) = at_names (listed bytes) refl
  where
    at_names : (found : Option (List (List ℕ))) → listed bytes ≡ found
        → list_all is_listable (names_or_none found) ≡ true
    at_names None is = refl
    at_names (Some names) is = (and_parts _ _ (listed-listable bytes names is)).0

-- a name of the primaries, and one of the backups
pub record IsPlain (name : List ℕ) : Type 0 where
  pub plain : is_backup name ≡ false
  pub not_guard : name ≢ guard_name

primaries_plain : (names : List (List ℕ)) → list_all is_listable names ≡ true
    → AllByRecursion IsPlain (map primary_name names)
primaries_plain [] all = tt
primaries_plain (name ∷ names) all =
    let both = and_parts _ _ all in
    let is = listable name both.0 in (record { plain = is.plain; not_guard = is.not_guard }, primaries_plain names both.1)

backups_backup : (names : List (List ℕ)) → AllByRecursion (λ name. is_backup name ≡ true) (map backup_name names)
backups_backup [] = tt
backups_backup (name ∷ names) = (is_backup-backup name, backups_backup names)

pub list_plain : is_backup list_name ≡ false
unfolding is_backup
list_plain = refl

pub guard_plain : is_backup guard_name ≡ false
unfolding is_backup
guard_plain = refl

pub list_not_guard : list_name ≢ guard_name
list_not_guard same = true≢false (ap (bytes_eq list_name) same)

-- the names that the primaries rest on are plain, and those that the backups rest on are backups' names
pub names_at-primary : (files : FileMap) → AllByRecursion IsPlain (names_at primary_name files)
unfolding names_at
names_at-primary files = (
  record { plain = list_plain; not_guard = list_not_guard },
  primaries_plain (named_by (files list_name)) (named_listable (files list_name)),
)

pub names_at-backup : (files : FileMap) → AllByRecursion (λ name. is_backup name ≡ true) (names_at backup_name files)
unfolding names_at
names_at-backup files = (is_backup-backup list_name, backups_backup (named_by (files (backup_name list_name))))

-- a row of changes in the backups, in the primaries, to the guard; no change of a name
abbrev pub InBackups : List Change → Type 0
InBackups changes = AllByRecursion (λ change. is_backup change.0 ≡ true) changes

abbrev pub InPrimaries : List Change → Type 0
InPrimaries changes = AllByRecursion (λ change. IsPlain change.0) changes

abbrev pub Apart : List Change → List ℕ → Type 0
Apart changes name = AllByRecursion (λ change. change.0 ≢ name) changes

pub apart_from_backups : (changes : List Change) → InBackups changes → (name : List ℕ) → is_backup name ≡ false
    → Apart changes name
apart_from_backups [] all name plain = tt
apart_from_backups (change ∷ changes) all name plain =
    (λ same. both_ways (is_backup name) plain (ap is_backup (sym same) ∙ all.0), apart_from_backups changes all.1 name plain)

pub apart_from_primaries : (changes : List Change) → InPrimaries changes → (name : List ℕ) → is_backup name ≡ true
    → Apart changes name
apart_from_primaries [] all name backup = tt
apart_from_primaries (change ∷ changes) all name backup =
    (λ same. both_ways (is_backup name) (ap is_backup (sym same) ∙ all.0.plain) backup, apart_from_primaries changes all.1 name backup)

pub guard_apart : (changes : List Change) → InPrimaries changes → Apart changes guard_name
guard_apart [] all = tt
guard_apart (change ∷ changes) all = (all.0.not_guard, guard_apart changes all.1)

-- a stop leaves an untouched name that the row does not change as it is durable
pub left_as_durable : (changes : List Change) (state : DiskState) (left : FileMap) (name : List ℕ) → Apart changes name
    → state.touched name ≡ false → MayLeave (after changes state) left → left name ≡ state.durable name
left_as_durable changes state left name apart untouched may = may name (touching-other changes state.touched name apart ∙ untouched)

pub agree_as_durable : (changes : List Change) (state : DiskState) (left : FileMap) (names : List (List ℕ))
    → AllByRecursion (Apart changes) names → AllByRecursion (λ name. state.touched name ≡ false) names
    → MayLeave (after changes state) left → AgreeAt names state.durable left
agree_as_durable changes state left [] apart untouched may = tt
agree_as_durable changes state left (name ∷ names) apart untouched may = (
  sym (left_as_durable changes state left name apart.0 untouched.0 may),
  agree_as_durable changes state left names apart.1 untouched.1 may,
)

pub backups_apart : (changes : List Change) → InBackups changes → (names : List (List ℕ)) → AllByRecursion IsPlain names
    → AllByRecursion (Apart changes) names
backups_apart changes in_backups [] plain = tt
backups_apart changes in_backups (name ∷ names) plain =
    (apart_from_backups changes in_backups name plain.0.plain, backups_apart changes in_backups names plain.1)

primaries_apart : (changes : List Change) → InPrimaries changes → (names : List (List ℕ))
    → AllByRecursion (λ name. is_backup name ≡ true) names → AllByRecursion (Apart changes) names
primaries_apart changes in_primaries [] backup = tt
primaries_apart changes in_primaries (name ∷ names) backup =
    (apart_from_primaries changes in_primaries name backup.0, primaries_apart changes in_primaries names backup.1)

pub all_untouched : (names : List (List ℕ)) → AllByRecursion (λ name. no_names name ≡ false) names
all_untouched [] = tt
all_untouched (name ∷ names) = (refl, all_untouched names)

-- The primaries count, and what they rest on is untouched: a stop in a row of changes in the backups leaves them.
pub record PrimariesStand (state : DiskState) : Type 0 where
  pub unguarded : state.durable guard_name ≡ None
  pub guard_free : state.touched guard_name ≡ false
  pub free : AllByRecursion (λ name. state.touched name ≡ false) (names_at primary_name state.durable)

pub record LeavesPrimaries (state : DiskState) (left : FileMap) : Type 0 where
  pub unguarded : left guard_name ≡ None
  pub same : primary_set left ≡ primary_set state.durable

pub left_in_backups : (changes : List Change) → InBackups changes → (state : DiskState) → PrimariesStand state
    → (left : FileMap)
    → MayLeave (after changes state) left → LeavesPrimaries state left
left_in_backups changes in_backups state stand left may = record {
  unguarded = left_as_durable changes state left guard_name (apart_from_backups changes in_backups guard_name guard_plain) stand.guard_free may ∙ stand.unguarded;
  same = primaries_alike state.durable left
      (agree_as_durable changes state left (names_at primary_name state.durable)
      (backups_apart changes in_backups (names_at primary_name state.durable) (names_at-primary state.durable)) stand.free may);
}

-- The same in a row of changes in the primaries, where all was durable before.
pub record LeavesBackups (files left : FileMap) : Type 0 where
  pub guard : left guard_name ≡ files guard_name
  pub same : backup_set left ≡ backup_set files

pub left_in_primaries : (changes : List Change) → InPrimaries changes → (state : DiskState) (left : FileMap)
    → MayLeave (after changes (with_all_durable state)) left → LeavesBackups state.current left
left_in_primaries changes in_primaries state left may = record {
  guard = left_as_durable changes (with_all_durable state) left guard_name (guard_apart changes in_primaries) refl may;
  same = backups_alike state.current left
      (agree_as_durable changes (with_all_durable state) left (names_at backup_name state.current)
      (primaries_apart changes in_primaries (names_at backup_name state.current) (names_at-backup state.current))
      (all_untouched (names_at backup_name state.current)) may);
}

-- While only the guard is touched, both sets stand.
pub record LeavesBoth (files left : FileMap) : Type 0 where
  pub backups : backup_set left ≡ backup_set files
  pub primaries : primary_set left ≡ primary_set files

guard_alone : (content : Option (List ℕ)) (names : List (List ℕ)) → AllByRecursion (λ name. name ≢ guard_name) names
    → AllByRecursion (Apart ((guard_name, content) ∷ [])) names
guard_alone content [] apart = tt
guard_alone content (name ∷ names) apart = ((λ same. apart.0 (sym same), tt), guard_alone content names apart.1)

plain_not_guard : (names : List (List ℕ)) → AllByRecursion IsPlain names
    → AllByRecursion (λ name. name ≢ guard_name) names
plain_not_guard [] plain = tt
plain_not_guard (name ∷ names) plain = (plain.0.not_guard, plain_not_guard names plain.1)

backup_not_guard : (names : List (List ℕ)) → AllByRecursion (λ name. is_backup name ≡ true) names
    → AllByRecursion (λ name. name ≢ guard_name) names
backup_not_guard [] backup = tt
backup_not_guard (name ∷ names) backup =
    (λ same. both_ways (is_backup name) (ap is_backup same ∙ guard_plain) backup.0, backup_not_guard names backup.1)

pub left_at_guard : (content : Option (List ℕ)) (state : DiskState) (left : FileMap)
    → MayLeave (after ((guard_name, content) ∷ []) (with_all_durable state)) left → LeavesBoth state.current left
left_at_guard content state left may = record {
  backups = backups_alike state.current left
      (agree_as_durable ((guard_name, content) ∷ []) (with_all_durable state) left (names_at backup_name state.current)
      (guard_alone content (names_at backup_name state.current) (backup_not_guard (names_at backup_name state.current) (names_at-backup state.current)))
      (all_untouched (names_at backup_name state.current)) may);
  primaries = primaries_alike state.current left
      (agree_as_durable ((guard_name, content) ∷ []) (with_all_durable state) left (names_at primary_name state.current)
      (guard_alone content (names_at primary_name state.current) (plain_not_guard (names_at primary_name state.current) (names_at-primary state.current)))
      (all_untouched (names_at primary_name state.current)) may);
}

-- which of the two counts is what the guard says
pub recover-unguarded : (files : FileMap) → files guard_name ≡ None → recover files ≡ primary_set files
unfolding recover
recover-unguarded files none = ap (λ found. cond (is_some found) (backup_set files) (primary_set files)) none

pub recover-guarded : (files : FileMap) (bytes : List ℕ) → files guard_name ≡ Some bytes
    → recover files ≡ backup_set files
unfolding recover
recover-guarded files bytes some = ap (λ found. cond (is_some found) (backup_set files) (primary_set files)) some

pub recover-either : (files : FileMap) → (recover files ≡ backup_set files) ⊎ (recover files ≡ primary_set files)
recover-either files = at_guard (files guard_name) refl
  where
    at_guard : (found : Option (List ℕ)) → files guard_name ≡ found
        → (recover files ≡ backup_set files) ⊎ (recover files ≡ primary_set files)
    at_guard None none = inr (recover-unguarded files none)
    at_guard (Some bytes) some = inl (recover-guarded files bytes some)
