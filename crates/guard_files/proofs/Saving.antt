-- A save from a store at rest: what each stop in it leaves recovers to the set before or to the set after, and at its
-- end the store is at rest with the set after.
use Rattle.std.proofs.Common.{◌≡◌, ◌≢◌, ℕ, Bool, true, false, not, ◌||◌, List, [], ◌∷◌, map, filter, Option, Some, None, IsSome, is_some, Ok, cond, inl, inr, refl, sym, ◌∙◌, ap}
use Rattle.std.proofs.lemmas.Bool.{and_parts, both_ways, cases_Bool, or_parts}
use Rattle.std.specs.List.{AllByRecursion, list_all}
use Rattle.std.specs.Str.{bytes_eq}
use Rattle.desk_ports.specs.declared.file_sets.SetFile.{SetFile}
use Rattle.desk_ports.specs.FileMap.{FileMap, no_names, names_of}
use Rattle.desk_ports.specs.Disk.{DiskState, MayLeave, IsTouchedOnly, with_all_durable}
use Rattle.guard_files.specs.OwnName.{guard_name, list_name, primary_name, backup_name, is_backup, is_listable, is_own}
use Rattle.guard_files.specs.ListFile.{are_listable}
use Rattle.guard_files.specs.Recovery.{backup_set, primary_set, recover, names_at, protected}
use Rattle.guard_files.specs.Holding.{is_among, own_names, OwnNamesAre}
use Rattle.guard_files.specs.Settled.{IsSettled, IsLeftCurrent, gone_names, IsBeforeOrAfter}
use Rattle.guard_files.specs.parts.Changes.{changed, after, removals, set_writes, primary_changes, guard_up, backups_away, Holds}
use Rattle.guard_files.proofs.Names.{listable, is_backup-backup, names_cases, backup-same}
use Rattle.guard_files.proofs.Versions.{current-saved}
use Rattle.guard_files.proofs.Rows.{touched_only-after}
use Rattle.guard_files.proofs.Sets.{changed-append, changed-other, touching-other, content-same, content-other, holds_written, backups_read, primaries_read}
use Rattle.guard_files.proofs.Stages.{IsPlain, InBackups, InPrimaries, names_at-primary, left_in_backups, left_at_guard, PrimariesStand, recover-unguarded, recover-either, apart_from_backups, apart_from_primaries, guard_plain, list_plain, list_not_guard}
use Rattle.guard_files.proofs.Primaries.{set_writes-backups, primary_changes-plain, names_backups, removals_backups, durable_only, holds_plain, lowered, lowered_guard, lowered_holds, lowered_stands, lowered_recovers}
use Rattle.guard_files.proofs.Reading.{primaries_may}
use Rattle.guard_files.proofs.Among.{removals-among, removals-apart, set_writes-apart, plain_not_among, among-filter, holds_there}

-- where no guard stands, the protected names are the guard and those of the primaries
unguarded_free : (P : List ℕ → Type 0) (found : Option (List ℕ)) (first second : List (List ℕ)) → found ≡ None
    → AllByRecursion P (cond (is_some found) first second) → AllByRecursion P second
unguarded_free P None first second none all = all
unguarded_free P (Some bytes) first second none all = absurd (cc)

pub free_unguarded : (P : List ℕ → Type 0) (found : Option (List ℕ)) (first second : List (List ℕ)) → found ≡ None
    → AllByRecursion P second → AllByRecursion P (cond (is_some found) first second)
free_unguarded P None first second none all = all
free_unguarded P (Some bytes) first second none all = absurd (cc)

pub settled_stands : (held : Option (List SetFile)) (state : DiskState) → IsSettled held state → PrimariesStand state
unfolding protected
settled_stands held state settled = record {
  unguarded = settled.unguarded;
  guard_free = settled.untouched.0;
  free = unguarded_free (λ name. state.touched name ≡ false) (state.durable guard_name) (names_at backup_name state.durable)
      (names_at primary_name state.durable) settled.unguarded settled.untouched.1;
}

pub settled_primaries : (held : Option (List SetFile)) (state : DiskState) → IsSettled held state
    → primary_set state.durable ≡ Ok held
settled_primaries held state settled = sym (recover-unguarded state.durable settled.unguarded) ∙ settled.recovers

-- the names that go are plain
some_plain : (next : List (List ℕ)) (names : List (List ℕ)) → list_all is_listable names ≡ true
    → AllByRecursion IsPlain (filter (λ name. not (is_among next name)) names)
some_plain next [] all = tt
some_plain next (name ∷ names) all =
    let both = and_parts _ _ all in
    let is = listable name both.0 in
    one_plain (not (is_among next name)) name (filter (λ name. not (is_among next name)) names)
    (record { plain = is.plain; not_guard = is.not_guard }) (some_plain next names both.1)
  where
    one_plain : (goes : Bool) (name : List ℕ) (rest : List (List ℕ)) → IsPlain name → AllByRecursion IsPlain rest
        → AllByRecursion IsPlain (cond goes (name ∷ rest) rest)
    one_plain true name rest is more = (is, more)
    one_plain false name rest is more = more

pub gone_plain : (held : Option (List SetFile)) (set : List SetFile) (files : FileMap) → primary_set files ≡ Ok held
    → AllByRecursion IsPlain (gone_names held set)
gone_plain None set files is = tt
gone_plain (Some held) set files is = some_plain (names_of set) (names_of held) (and_parts _ _ (primaries_may files held is)).0

names_plain : (names : List (List ℕ)) → list_all is_listable names ≡ true → AllByRecursion IsPlain names
names_plain [] all = tt
names_plain (name ∷ names) all =
    let both = and_parts _ _ all in
    let is = listable name both.0 in (record { plain = is.plain; not_guard = is.not_guard }, names_plain names both.1)

-- primaries are placed under their own names
pub as_placed : (names : List (List ℕ)) (name : List ℕ) → is_among (list_name ∷ names) name ≡ false
    → is_among (primary_name list_name ∷ map primary_name names) name ≡ false
as_placed names name absent = ap (λ found. bytes_eq list_name name || found) (placed names) ∙ absent
  where
    placed : (names : List (List ℕ)) → is_among (map primary_name names) name ≡ is_among names name
    placed [] = refl
    placed (first ∷ names) = ap (λ found. bytes_eq first name || found) (placed names)

-- a name of neither set, and one that does not go, was not held
not_held : (held : Option (List SetFile)) (set : List SetFile) (name : List ℕ)
    → is_among (own_names (Some set)) name ≡ false
    → is_among (gone_names held set) name ≡ false → is_among (own_names held) name ≡ false
not_held None set name absent stays = refl
not_held (Some files) set name absent stays =
    let both = or_parts (bytes_eq list_name name) (is_among (names_of set) name) absent in
    elim (cases_Bool (is_among (names_of files) name)) [
      | inl there ↦ absurd (both_ways (is_among (gone_names (Some files) set) name) stays
          (among-filter (λ other. not (is_among (names_of set) other)) (names_of files) name (ap not both.1) there))
      | inr none ↦ ap (λ test. test || is_among (names_of files) name) both.0 ∙ none
    ]

module _ (held : Option (List SetFile)) (set : List SetFile) (before : DiskState) (settled : IsSettled held before) (only : IsTouchedOnly before)
    (may : are_listable (names_of set) ≡ true) where
  abbrev pub backed : DiskState
  backed = after (set_writes backup_name set) before

  abbrev pub raised : DiskState
  raised = after guard_up (with_all_durable backed)

  -- while the backups are written the set before stands
  pub left_while_backed : (left : FileMap) → MayLeave backed left → recover left ≡ Ok held
  left_while_backed left leaves =
      let stands = left_in_backups (set_writes backup_name set) (set_writes-backups set) before (settled_stands held before settled) left leaves in
      recover-unguarded left stands.unguarded ∙ stands.same ∙ settled_primaries held before settled

  backed_leaves : MayLeave backed backed.current
  backed_leaves = touched_only-after (set_writes backup_name set) before only

  backed_primaries : primary_set backed.current ≡ Ok held
  backed_primaries =
      (left_in_backups (set_writes backup_name set) (set_writes-backups set) before (settled_stands held before settled) backed.current backed_leaves).same
      ∙ settled_primaries held before settled

  backed_backups : backup_set backed.current ≡ Ok (Some set)
  backed_backups = backups_read set backed.current may (holds_written backup_name backup-same set before.current may)

  -- while the guard is written both stand
  pub left_while_raised : (left : FileMap) → MayLeave raised left → IsBeforeOrAfter held (Some set) left
  left_while_raised left leaves =
      let both = left_at_guard (Some []) backed left leaves in
      elim (recover-either left) [
        | inl counts ↦ inr (counts ∙ both.backups ∙ backed_backups)
        | inr counts ↦ inl (counts ∙ both.primaries ∙ backed_primaries)
      ]

  pub raised_guard : raised.current guard_name ≡ Some []
  raised_guard = content-same backed.current guard_name (Some [])

  pub raised_backups : backup_set raised.current ≡ Ok (Some set)
  raised_backups =
      (left_at_guard (Some []) backed raised.current (touched_only-after guard_up (with_all_durable backed) (durable_only backed))).backups
      ∙ backed_backups

  pub gone_is_plain : AllByRecursion IsPlain (gone_names held set)
  gone_is_plain = gone_plain held set before.durable (settled_primaries held before settled)

  abbrev pub last : DiskState
  last = lowered raised [] set (gone_names held set) raised_guard raised_backups may gone_is_plain

  abbrev pub cleared : DiskState
  cleared = after (backups_away (map backup_name (names_of set))) (with_all_durable last)

  last_stands : PrimariesStand (with_all_durable last)
  last_stands = lowered_stands raised [] set (gone_names held set) raised_guard raised_backups may gone_is_plain

  away_backups : InBackups (backups_away (map backup_name (names_of set)))
  away_backups = (is_backup-backup list_name, removals_backups (map backup_name (names_of set)) (names_backups (names_of set)))

  -- while the backups are removed the set after stands
  pub left_while_cleared : (left : FileMap) → MayLeave cleared left → recover left ≡ Ok (Some set)
  left_while_cleared left leaves =
      let stands = left_in_backups (backups_away (map backup_name (names_of set))) away_backups (with_all_durable last) last_stands left leaves in
      recover-unguarded left stands.unguarded ∙ stands.same
      ∙ primaries_read set last.current may (lowered_holds raised [] set (gone_names held set) raised_guard raised_backups may gone_is_plain)

  untouched_after : (names : List (List ℕ)) → AllByRecursion IsPlain names
      → AllByRecursion (λ name. cleared.touched name ≡ false) names
  untouched_after [] plain = tt
  untouched_after (name ∷ names) plain = (
    touching-other (backups_away (map backup_name (names_of set))) no_names name
        (apart_from_backups (backups_away (map backup_name (names_of set))) away_backups name plain.0.plain),
    untouched_after names plain.1,
  )

  pub cleared_untouched : AllByRecursion (λ name. cleared.touched name ≡ false) (protected last.current)
  unfolding protected
  cleared_untouched = (
    touching-other (backups_away (map backup_name (names_of set))) no_names guard_name
        (apart_from_backups (backups_away (map backup_name (names_of set))) away_backups guard_name guard_plain),
    free_unguarded (λ name. cleared.touched name ≡ false) (last.current guard_name) (names_at backup_name last.current)
        (names_at primary_name last.current) last_stands.unguarded
        (untouched_after (names_at primary_name last.current) (names_at-primary last.current)),
  )

  -- the set stands in the primaries at the end
  last_holds : Holds primary_name set last.current
  last_holds = lowered_holds raised [] set (gone_names held set) raised_guard raised_backups may gone_is_plain

  cleared_holds : Holds primary_name set cleared.current
  cleared_holds =
      holds_plain set last.current cleared.current
      (λ name is. changed-other (backups_away (map backup_name (names_of set))) last.current name
      (apart_from_backups (backups_away (map backup_name (names_of set))) away_backups name is.plain))
      may last_holds

  -- the own names that the store has at the end
  cleared_there : AllByRecursion (λ name. IsSome (cleared.current name)) (own_names (Some set))
  cleared_there = holds_there set cleared.current cleared_holds

  in_primaries : InPrimaries (primary_changes (gone_names held set) set)
  in_primaries = primary_changes-plain (gone_names held set) set gone_is_plain may

  not_guard_raised : (name : List ℕ) → name ≢ guard_name → raised.current name ≡ backed.current name
  not_guard_raised name other = content-other backed.current guard_name name (Some []) (λ same. other (sym same))

  not_guard_last : (name : List ℕ) → name ≢ guard_name
      → last.current name ≡ changed (primary_changes (gone_names held set) set) raised.current name
  not_guard_last name other =
      content-other (changed (primary_changes (gone_names held set) set) raised.current) guard_name name None (λ same. other (sym same))

  held_plain : AllByRecursion IsPlain (own_names held)
  held_plain = own_plain held (λ files is. primaries_may before.durable files (settled_primaries held before settled ∙ ap Ok is))
    where
      own_plain : (held : Option (List SetFile))
          → ((files : List SetFile) → held ≡ Some files → are_listable (names_of files) ≡ true)
          → AllByRecursion IsPlain (own_names held)
      own_plain None listables = tt
      own_plain (Some files) listables =
          (record { plain = list_plain; not_guard = list_not_guard }, names_plain (names_of files) (and_parts _ _ (listables files refl)).0)

  -- a backup's name
  no_backup : (name : List ℕ) → is_own name ≡ true → is_backup name ≡ true → cleared.current name ≡ None
  no_backup name own backup = elim (cases_Bool (is_among (backup_name list_name ∷ map backup_name (names_of set)) name)) [
    | inl removed ↦ removals-among (backup_name list_name ∷ map backup_name (names_of set)) last.current name removed
    | inr kept ↦
        let other : name ≢ guard_name = λ same. both_ways (is_backup name) (ap is_backup same ∙ guard_plain) backup in
        changed-other (backups_away (map backup_name (names_of set))) last.current name
        (removals-apart (backup_name list_name ∷ map backup_name (names_of set)) name kept)
        ∙ not_guard_last name other
        ∙ changed-other (primary_changes (gone_names held set) set) raised.current name
        (apart_from_primaries (primary_changes (gone_names held set) set) in_primaries name backup)
        ∙ not_guard_raised name other
        ∙ changed-other (set_writes backup_name set) before.current name (set_writes-apart backup_name set name kept)
        ∙ settled.own.no_other name own (plain_not_among (own_names held) name held_plain backup)
  ]

  -- a plain name
  no_plain : (name : List ℕ) → is_own name ≡ true → is_backup name ≡ false
      → is_among (own_names (Some set)) name ≡ false
      → cleared.current name ≡ None
  no_plain name own plain absent =
      changed-other (backups_away (map backup_name (names_of set))) last.current name
      (apart_from_backups (backups_away (map backup_name (names_of set))) away_backups name plain)
      ∙ elim (names_cases name guard_name) [
        | inl same ↦ ap last.current same ∙ lowered_guard raised [] set (gone_names held set) raised_guard raised_backups may gone_is_plain
        | inr other ↦
            not_guard_last name other
            ∙ ap (λ files. files name) (changed-append (removals (gone_names held set)) (set_writes primary_name set) raised.current)
            ∙ changed-other (set_writes primary_name set) (changed (removals (gone_names held set)) raised.current) name
            (set_writes-apart primary_name set name (as_placed (names_of set) name absent))
            ∙ elim (cases_Bool (is_among (gone_names held set) name)) [
              | inl gone ↦ removals-among (gone_names held set) raised.current name gone
              | inr stays ↦
                  changed-other (removals (gone_names held set)) raised.current name (removals-apart (gone_names held set) name stays)
                  ∙ not_guard_raised name other
                  ∙ changed-other (set_writes backup_name set) before.current name
                  (apart_from_backups (set_writes backup_name set) (set_writes-backups set) name plain)
                  ∙ settled.own.no_other name own (not_held held set name absent stays)
            ]
      ]

  pub cleared_own : OwnNamesAre (own_names (Some set)) cleared.current
  cleared_own = record {
    there = cleared_there;
    no_other = λ name own absent. elim (cases_Bool (is_backup name)) [
      | inl backup ↦ no_backup name own backup
      | inr plain ↦ no_plain name own plain absent
    ];
  }

  pub cleared_settled : IsSettled (Some set) cleared
  cleared_settled = record {
    recovers = lowered_recovers raised [] set (gone_names held set) raised_guard raised_backups may gone_is_plain;
    unguarded = last_stands.unguarded;
    untouched = cleared_untouched;
    own = cleared_own;
  }

  pub cleared_current : IsLeftCurrent (Some set) cleared
  cleared_current = record {
    settled = cleared_settled;
    current = current-saved cleared.current (names_of set) may cleared_holds.list;
    durable = current-saved last.current (names_of set) may last_holds.list;
  }
