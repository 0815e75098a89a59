-- A mount from what was read, where the guard stood and where it did not.
use Rattle.std.proofs.Common.{◌≡◌, ◌≢◌, ◌⊎◌, ℕ, Bool, true, false, not, ◌&&◌, ◌||◌, List, [], ◌∷◌, map, filter, Option, Some, None, IsSome, Result, Ok, Err, inl, inr, refl, sym, ◌∙◌, ap, subst}
use Rattle.std.proofs.lemmas.Bool.{and_parts, and_from, both_ways, cases_Bool, or_parts, false≢true}
use Rattle.std.specs.List.{AllByRecursion}
use Rattle.std.specs.Str.{bytes_eq}
use Rattle.desk_ports.specs.declared.file_sets.SetFile.{SetFile}
use Rattle.desk_ports.specs.FileMap.{FileMap, names_of, AreNamesOf}
use Rattle.desk_ports.specs.Disk.{DiskState, with_all_durable}
use Rattle.guard_files.specs.OwnName.{guard_name, list_name, primary_name, is_backup, is_own}
use Rattle.guard_files.specs.ListFile.{are_listable, listed, IsCurrent}
use Rattle.guard_files.specs.Recovery.{backup_set, primary_set, names_at, named_by, names_or_none, files_at, with_file, set_of, set_named, set_listed}
use Rattle.guard_files.specs.Holding.{is_among, own_names, OwnNamesAre}
use Rattle.guard_files.specs.Mounted.{goes, is_left_over, set_names}
use Rattle.guard_files.specs.parts.Changes.{changed, removals, set_writes, primary_changes, Holds}
use Rattle.guard_files.proofs.Names.{same-same, same-other, names_cases}
use Rattle.guard_files.proofs.Versions.{current-saved, current-same}
use Rattle.guard_files.proofs.Sets.{changed-append, changed-other, content-other, primaries_read}
use Rattle.guard_files.proofs.Stages.{IsPlain, InBackups, InPrimaries, Apart, names_at-primary, backups_apart, PrimariesStand, apart_from_backups, apart_from_primaries, guard_plain, all_untouched}
use Rattle.guard_files.proofs.Primaries.{primary_changes-plain, removals_backups, lowered, lowered_guard, lowered_holds, lowered_stands, holds_plain}
use Rattle.guard_files.proofs.Reading.{names_of-files_at, backups_may}
use Rattle.guard_files.proofs.Among.{removals-none, removals-among, set_writes-apart, among-filter, holds_there}
use Rattle.guard_files.proofs.Saving.{as_placed}
use Rattle.guard_files.proofs.Leaving.{none_or_listed, all_filtered, filtered_apart, goes_plain}

-- a name of neither the list nor the set
not_own : (held : Option (List SetFile)) (name : List ℕ) → bytes_eq name list_name ≡ false
    → is_among (set_names held) name ≡ false → is_own name ≡ true
    → ((not (bytes_eq name list_name) && not (is_among (set_names held) name)) && is_own name) ≡ true
not_own held name not_list not_held own = and_from _ _ (and_from _ _ (ap not not_list) (ap not not_held)) own

turned : (name other : List ℕ) → bytes_eq other name ≡ false → bytes_eq name other ≡ false
turned name other differs = same-other name other (λ same. both_ways (bytes_eq other name) differs (same-same other name (sym same)))

module _ (before : DiskState) (bytes : List ℕ) (set : List SetFile) (names : List (List ℕ)) (guarded : before.current guard_name ≡ Some bytes)
    (backups : backup_set before.current ≡ Ok (Some set)) (are : AreNamesOf before.current names) where
  abbrev pub going : List (List ℕ)
  going = filter (goes (Some set)) names

  abbrev pub leftover : List (List ℕ)
  leftover = filter (is_left_over true (Some set)) names

  pub set_may : are_listable (names_of set) ≡ true
  set_may = backups_may before.current set backups

  pub going_plain : AllByRecursion IsPlain going
  going_plain = all_filtered (goes (Some set)) IsPlain names (goes_plain (Some set))

  pub leftover_backups : InBackups (removals leftover)
  leftover_backups =
      removals_backups leftover (all_filtered (is_left_over true (Some set)) (λ name. is_backup name ≡ true) names (λ name is. (and_parts _ _ is).0))

  abbrev pub low : DiskState
  low = lowered before bytes set going guarded backups set_may going_plain

  pub low_stands : PrimariesStand (with_all_durable low)
  low_stands = lowered_stands before bytes set going guarded backups set_may going_plain

  pub low_reads : primary_set low.current ≡ Ok (Some set)
  low_reads = primaries_read set low.current set_may (lowered_holds before bytes set going guarded backups set_may going_plain)

  pub low_guard_apart : Apart (removals leftover) guard_name
  low_guard_apart = apart_from_backups (removals leftover) leftover_backups guard_name guard_plain

  pub low_apart : AllByRecursion (Apart (removals leftover)) (names_at primary_name low.current)
  low_apart = backups_apart (removals leftover) leftover_backups (names_at primary_name low.current) (names_at-primary low.current)

  changes_plain : InPrimaries (primary_changes going set)
  changes_plain = primary_changes-plain going set going_plain set_may

  off_guard : (name : List ℕ) → name ≢ guard_name
      → low.current name ≡ changed (primary_changes going set) before.current name
  off_guard name other = content-other (changed (primary_changes going set) before.current) guard_name name None (λ same. other (sym same))

  backup_gone : (name : List ℕ) → is_own name ≡ true → is_backup name ≡ true
      → changed (removals leftover) low.current name ≡ None
  backup_gone name own backup =
      elim (none_or_listed before.current names name are) [
        | inl none ↦
            removals-none leftover low.current name
            (off_guard name (λ same. both_ways (is_backup name) (ap is_backup same ∙ guard_plain) backup)
            ∙ changed-other (primary_changes going set) before.current name (apart_from_primaries (primary_changes going set) changes_plain name backup)
            ∙ none)
        | inr there ↦ removals-among leftover low.current name (among-filter (is_left_over true (Some set)) names name (and_from _ _ backup own) there)
      ]

  plain_gone : (name : List ℕ) → is_own name ≡ true → is_backup name ≡ false
      → is_among (own_names (Some set)) name ≡ false
      → changed (removals leftover) low.current name ≡ None
  plain_gone name own plain absent =
      changed-other (removals leftover) low.current name (apart_from_backups (removals leftover) leftover_backups name plain)
      ∙ elim (names_cases name guard_name) [
        | inl same ↦ ap low.current same ∙ lowered_guard before bytes set going guarded backups set_may going_plain
        | inr other ↦
            off_guard name other
            ∙ ap (λ files. files name) (changed-append (removals going) (set_writes primary_name set) before.current)
            ∙ changed-other (set_writes primary_name set) (changed (removals going) before.current) name
            (set_writes-apart primary_name set name (as_placed (names_of set) name absent))
            ∙ elim (none_or_listed before.current names name are) [
              | inl none ↦ removals-none going before.current name none
              | inr there ↦
                  let both = or_parts (bytes_eq list_name name) (is_among (names_of set) name) absent in
                  removals-among going before.current name
                  (among-filter (goes (Some set)) names name
                  (and_from _ _ (and_from _ _ (ap not plain) (ap not (same-other name guard_name other)))
                  (not_own (Some set) name (turned name list_name both.0) both.1 own)) there)
            ]
      ]

  pub low_holds : Holds primary_name set (changed (removals leftover) low.current)
  low_holds =
      holds_plain set low.current (changed (removals leftover) low.current)
      (λ name is. changed-other (removals leftover) low.current name (apart_from_backups (removals leftover) leftover_backups name is.plain))
      set_may (lowered_holds before bytes set going guarded backups set_may going_plain)

  pub low_current : IsCurrent (changed (removals leftover) low.current)
  low_current = current-saved (changed (removals leftover) low.current) (names_of set) set_may low_holds.list

  pub low_own : OwnNamesAre (own_names (Some set)) (changed (removals leftover) low.current)
  low_own = record {
    there = holds_there set (changed (removals leftover) low.current) low_holds;
    no_other = λ name own absent. elim (cases_Bool (is_backup name)) [
      | inl backup ↦ backup_gone name own backup
      | inr plain ↦ plain_gone name own plain absent
    ];
  }

-- what the primaries tell where they were read
found_each : (name : List ℕ) (found : Option (List ℕ)) (others : Result (List SetFile) (List ℕ)) (set : List SetFile) (P : List SetFile → Type 0)
    → ((bytes : List ℕ) (rest : List SetFile) → found ≡ Some bytes → others ≡ Ok rest → P (record { name = name; bytes = bytes } ∷ rest))
    → with_file name found others ≡ Ok set → P set
found_each name None others set P gives is = absurd (cc)
found_each name (Some bytes) (Err absent) set P gives is = absurd (cc)
found_each name (Some bytes) (Ok rest) set P gives is =
    let whole : record { name = name; bytes = bytes } ∷ rest ≡ set = cc in subst P whole (gives bytes rest refl refl)

is_there : (content : Option (List ℕ)) (bytes : List ℕ) → content ≡ Some bytes → IsSome content
is_there content bytes is = subst IsSome (sym is) refl

files_there : (files : FileMap) (names : List (List ℕ)) (set : List SetFile)
    → files_at primary_name files names ≡ Ok set
    → AllByRecursion (λ name. IsSome (files name)) (names_of set)
files_there files [] [] is = tt
files_there files [] (file ∷ set) is = absurd (cc)
files_there files (name ∷ names) set is =
    found_each name (files name) (files_at primary_name files names) set (λ set. AllByRecursion (λ name. IsSome (files name)) (names_of set))
    (λ bytes rest found read. (is_there (files name) bytes found, files_there files names rest read)) is

pub record IsRead (held : Option (List SetFile)) (files : FileMap) : Type 0 where
  pub named : named_by (files list_name) ≡ set_names held
  pub there : AllByRecursion (λ name. IsSome (files name)) (own_names held)
  pub unlisted : held ≡ None → files list_name ≡ None

read_named : (files : FileMap) (bytes : List ℕ) (found : Option (List (List ℕ))) (held : Option (List SetFile))
    → files list_name ≡ Some bytes
    → listed bytes ≡ found → set_named primary_name files found ≡ Ok held → IsRead held files
read_named files bytes None held some are is = absurd (cc)
read_named files bytes (Some names) held some are is = at_files (files_at primary_name files names) refl is
  where
    at_files : (read : Result (List SetFile) (List ℕ)) → files_at primary_name files names ≡ read
        → set_of read ≡ Ok held → IsRead held files
    at_files (Err absent) read is = absurd (cc)
    at_files (Ok set) read is =
        let whole : Some set ≡ held = cc in
        subst (λ held. IsRead held files) whole
        (record {
          named = ap named_by some ∙ ap names_or_none are ∙ sym (names_of-files_at primary_name files names set read);
          there = (is_there (files list_name) bytes some, files_there files names set read);
          unlisted = λ none. absurd (cc);
        })

read_listed : (files : FileMap) (list : Option (List ℕ)) (held : Option (List SetFile)) → files list_name ≡ list
    → set_listed primary_name (Ok None) files list ≡ Ok held → IsRead held files
read_listed files None held none is =
    let whole : None ≡ held = cc in
    subst (λ held. IsRead held files) whole (record { named = ap named_by none; there = tt; unlisted = λ _. none })
read_listed files (Some bytes) held some is = read_named files bytes (listed bytes) held some refl is

pub is_read : (files : FileMap) (held : Option (List SetFile)) → primary_set files ≡ Ok held → IsRead held files
unfolding primary_set
is_read files held is = read_listed files (files list_name) held refl is

falls : (a b c : Bool) → (a && ((b && false) && c)) ≡ false
falls true true c = refl
falls true false c = refl
falls false b c = refl

or_left : (a b : Bool) → a ≡ true → (a || b) ≡ true
or_left true b is = refl
or_left false b is = absurd (false≢true is)

or_right : (a b : Bool) → b ≡ true → (a || b) ≡ true
or_right true b is = refl
or_right false b is = is

all_among : (names : List (List ℕ)) (P : List ℕ → Type 0) → ((name : List ℕ) → is_among names name ≡ true → P name)
    → AllByRecursion P (map primary_name names)
all_among [] P gives = tt
all_among (first ∷ names) P gives = (
  gives first (or_left (bytes_eq first first) (is_among names first) (same-same first first refl)),
  all_among names P (λ name is. gives name (or_right (bytes_eq first name) (is_among names name) is)),
)

kept_there : (files others : FileMap) (names : List (List ℕ)) → AllByRecursion (λ name. others name ≡ files name) names
    → AllByRecursion (λ name. IsSome (files name)) names → AllByRecursion (λ name. IsSome (others name)) names
kept_there files others [] same there = tt
kept_there files others (name ∷ names) same there = (subst IsSome (sym same.0) there.0, kept_there files others names same.1 there.1)

module _ (before : DiskState) (held : Option (List SetFile)) (names : List (List ℕ)) (unguarded : before.current guard_name ≡ None)
    (reads : primary_set before.current ≡ Ok held) (are : AreNamesOf before.current names) where
  abbrev pub rest : List (List ℕ)
  rest = filter (is_left_over false held) names

  pub rest_stands : PrimariesStand (with_all_durable before)
  rest_stands = record { unguarded = unguarded; guard_free = refl; free = all_untouched (names_at primary_name before.current) }

  pub rest_guard_apart : Apart (removals rest) guard_name
  rest_guard_apart = filtered_apart (is_left_over false held) names guard_name refl

  list_apart : Apart (removals rest) list_name
  list_apart = filtered_apart (is_left_over false held) names list_name refl

  pub rest_current : IsCurrent before.current → IsCurrent (changed (removals rest) before.current)
  rest_current current =
      current-same before.current (changed (removals rest) before.current)
      (changed-other (removals rest) before.current list_name list_apart) current

  held_apart : (name : List ℕ) → is_among (set_names held) name ≡ true → Apart (removals rest) name
  held_apart name is =
      filtered_apart (is_left_over false held) names name
      (ap (λ there. not (bytes_eq name guard_name) && ((not (bytes_eq name list_name) && not there) && is_own name)) is
      ∙ falls (not (bytes_eq name guard_name)) (not (bytes_eq name list_name)) (is_own name))

  pub rest_apart : AllByRecursion (Apart (removals rest)) (names_at primary_name before.current)
  unfolding names_at
  rest_apart = (
    list_apart,
    subst (λ (names : List (List ℕ)). AllByRecursion (Apart (removals rest)) (map primary_name names)) (sym (is_read before.current held reads).named)
        (all_among (set_names held) (Apart (removals rest)) held_apart),
  )

  kept_names : (held_names : List (List ℕ)) → AllByRecursion (Apart (removals rest)) (map primary_name held_names)
      → AllByRecursion (λ name. changed (removals rest) before.current name ≡ before.current name) held_names
  kept_names [] apart = tt
  kept_names (name ∷ more) apart = (changed-other (removals rest) before.current name apart.0, kept_names more apart.1)

  kept_own : (held : Option (List SetFile)) → AllByRecursion (Apart (removals rest)) (map primary_name (set_names held))
      → AllByRecursion (λ name. changed (removals rest) before.current name ≡ before.current name) (own_names held)
  kept_own None apart = tt
  kept_own (Some files) apart = (changed-other (removals rest) before.current list_name list_apart, kept_names (names_of files) apart)

  not_listed : (held : Option (List SetFile)) (name : List ℕ) → (held ≡ None → before.current list_name ≡ None)
      → is_among (own_names held) name ≡ false
      → is_among names name ≡ true
      → (before.current name ≡ None) ⊎ ((bytes_eq name list_name ≡ false) × (is_among (set_names held) name ≡ false))
  not_listed None name none absent there = elim (names_cases name list_name) [
    | inl same ↦ inl (ap before.current same ∙ none refl)
    | inr other ↦ inr (same-other name list_name other, refl)
  ]
  not_listed (Some files) name none absent there =
      let both = or_parts (bytes_eq list_name name) (is_among (names_of files) name) absent in inr (turned name list_name both.0, both.1)

  own_gone : (name : List ℕ) → is_own name ≡ true → is_among (own_names held) name ≡ false
      → changed (removals rest) before.current name ≡ None
  own_gone name own absent =
      elim (none_or_listed before.current names name are) [
        | inl none ↦ removals-none rest before.current name none
        | inr there ↦ elim (names_cases name guard_name) [
          | inl same ↦ removals-none rest before.current name (ap before.current same ∙ unguarded)
          | inr other ↦ elim (not_listed held name (is_read before.current held reads).unlisted absent there) [
            | inl none ↦ removals-none rest before.current name none
            | inr apart ↦
                removals-among rest before.current name
                (among-filter (is_left_over false held) names name
                (and_from _ _ (ap not (same-other name guard_name other)) (not_own held name apart.0 apart.1 own)) there)
          ]
        ]
      ]

  pub rest_own : OwnNamesAre (own_names held) (changed (removals rest) before.current)
  rest_own = record {
    there =
        kept_there before.current (changed (removals rest) before.current) (own_names held)
        (kept_own held (all_among (set_names held) (Apart (removals rest)) held_apart)) (is_read before.current held reads).there;
    no_other = own_gone;
  }
