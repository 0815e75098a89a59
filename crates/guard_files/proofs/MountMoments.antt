-- A mount at each moment, over plain disks.
use Rattle.std.proofs.Common.{◌≡◌, ℕ, Bool, true, false, List, filter, Option, Some, None, IsSome, is_some, Ok, inl, inr, refl, sym, ◌∙◌, ap, subst}
use Rattle.std.proofs.lemmas.Bool.{cases_Bool, true≢false}
use Rattle.std.specs.List.{AllByRecursion}
use Rattle.std.specs.Str.{bytes_eq}
use Rattle.desk_ports.specs.declared.file_sets.SetFile.{SetFile}
use Rattle.desk_ports.specs.FileMap.{FileMap, AreNamesOf}
use Rattle.desk_ports.specs.Disk.{DiskState, MayLeave, WhereTold, with_all_durable}
use Rattle.desk_ports.specs.Moments.{AddsOnly}
use Rattle.desk_ports.proofs.Moments.{AddsOnly-more}
use Rattle.guard_files.specs.OwnName.{guard_name}
use Rattle.guard_files.specs.ListFile.{IsCurrent}
use Rattle.guard_files.specs.Recovery.{Recovered, backup_set, primary_set, recover}
use Rattle.guard_files.specs.Holding.{is_among}
use Rattle.guard_files.specs.Mounted.{goes, is_left_over, set_read, AreOthersOf, StandsFor, Rests, EndsAtRest}
use Rattle.guard_files.specs.parts.Changes.{after, removals, primary_changes, guard_down}
use Rattle.std.proofs.lemmas.Map.Views.{Contains-from_any}
use Rattle.guard_files.proofs.Names.{same-true}
use Rattle.guard_files.proofs.Stages.{IsPlain}
use Rattle.guard_files.proofs.Primaries.{left_while_renewed, left_while_lowered}
use Rattle.guard_files.proofs.Reading.{backups_may}
use Rattle.guard_files.proofs.Leaving.{among-listed, all_filtered, goes_plain, left_while_tidied, tidied_settled}
use Rattle.guard_files.proofs.Others.{AllOwn, own_renewed, own_down, own_going, own_leftover, own_rest, others_left, others_changed, others_then}
use Rattle.guard_files.proofs.Mounting.{leftover, low, low_stands, low_reads, low_guard_apart, low_apart, low_current, low_own, rest, rest_current, rest_stands, rest_guard_apart, rest_apart, rest_own}

-- what the guard's name among the names tells
guard_there : (files : FileMap) (names : List (List ℕ)) (name : List ℕ) → AreNamesOf files names
    → is_among names name ≡ true → IsSome (files name)
guard_there files names name are is =
    (are name).0 (Contains-from_any {eq = λ asked other. bytes_eq other asked} (λ asked other same. sym (same-true other asked same)) name names is)

pub guard_is : (files : FileMap) (names : List (List ℕ)) → AreNamesOf files names
    → is_among names guard_name ≡ is_some (files guard_name)
guard_is files names are = at_guard (files guard_name) refl
  where
    at_guard : (found : Option (List ℕ)) → files guard_name ≡ found → is_among names guard_name ≡ is_some found
    at_guard None is = elim (cases_Bool (is_among names guard_name)) [
      | inl there ↦ absurd (true≢false (sym (subst IsSome is (guard_there files names guard_name are there))))
      | inr none ↦ none
    ]
    at_guard (Some bytes) is = among-listed files names guard_name are (subst IsSome (sym is) refl)

pub recover-read : (files : FileMap) (guarded : Bool) (found : Recovered) → guarded ≡ is_some (files guard_name)
    → set_read guarded files ≡ found
    → recover files ≡ found
unfolding recover
recover-read files guarded found is read = ap (λ guarded. set_read guarded files) (sym is) ∙ read

pub some_bytes : (found : Option (List ℕ)) → is_some found ≡ true → (bytes : List ℕ) × (found ≡ Some bytes)
some_bytes None is = absurd (true≢false (sym is))
some_bytes (Some bytes) is = (bytes, refl)

pub no_bytes : (found : Option (List ℕ)) → is_some found ≡ false → found ≡ None
no_bytes None is = refl
no_bytes (Some bytes) is = absurd (true≢false is)

-- the state after the primaries were written
pub told_primaries : {D : Type 0} (state : D → Option DiskState) (base : DiskState) (set : List SetFile) (gone : List (List ℕ)) (old new : D)
    (going : List (List ℕ)) (files : List SetFile) → going ≡ gone → files ≡ set
    → state old ≡ Some (with_all_durable base)
    → WhereTold (state old) (λ before. state new ≡ Some (with_all_durable (after (primary_changes going files) before)))
    → state new ≡ Some (with_all_durable (after (primary_changes gone set) (with_all_durable base)))
told_primaries state base set gone old new going files going_is files_is told done =
    subst (λ (files : List SetFile). state new ≡ Some (with_all_durable (after (primary_changes gone files) (with_all_durable base)))) files_is
    (subst (λ (going : List (List ℕ)). state new ≡ Some (with_all_durable (after (primary_changes going files) (with_all_durable base)))) going_is
    (done (with_all_durable base) told))

module _ {D : Type 0} (state : D → Option DiskState) (moment : D → ℕ) (left_since : D → ℕ → FileMap → Type 0)
    (base : DiskState) (bytes : List ℕ) (set : List SetFile) (names : List (List ℕ)) (guarded : base.current guard_name ≡ Some bytes)
    (backups : backup_set base.current ≡ Ok (Some set)) where
  abbrev gone : List (List ℕ)
  gone = filter (goes (Some set)) names

  gone_plain : AllByRecursion IsPlain gone
  gone_plain = all_filtered (goes (Some set)) IsPlain names (goes_plain (Some set))

  gone_own : AllOwn (primary_changes gone set)
  gone_own = own_renewed gone set (own_going (Some set) names) (backups_may base.current set backups)

  abbrev renewed_now : DiskState
  renewed_now = after (primary_changes gone set) (with_all_durable base)

  others_renewed : AreOthersOf base.current renewed_now.current
  others_renewed = others_changed (primary_changes gone set) gone_own base.current

  abbrev Stays : FileMap → Type 0
  Stays left = StandsFor base.current (Some set) left

  pub over_renewal : (old new : D) (going : List (List ℕ)) (files : List SetFile) → going ≡ gone → files ≡ set
      → state old ≡ Some (with_all_durable base)
      → WhereTold (state old) (λ before. AddsOnly moment left_since old new (MayLeave (after (primary_changes going files) before)))
      → AddsOnly moment left_since old new (StandsFor base.current (Some set))
  over_renewal old new going files going_is files_is told adds =
      AddsOnly-more moment left_since old new (MayLeave (after (primary_changes gone set) (with_all_durable base))) Stays
      (λ left may. record {
        recovers = left_while_renewed base bytes set gone guarded backups (backups_may base.current set backups) gone_plain left may;
        others = others_left (primary_changes gone set) gone_own base left may;
      })
      (subst (λ (files : List SetFile). AddsOnly moment left_since old new (MayLeave (after (primary_changes gone files) (with_all_durable base)))) files_is
      (subst (λ (going : List (List ℕ)). AddsOnly moment left_since old new (MayLeave (after (primary_changes going files) (with_all_durable base)))) going_is
      (adds (with_all_durable base) told)))

  pub told_renewal : (old new : D) (going : List (List ℕ)) (files : List SetFile) → going ≡ gone → files ≡ set
      → state old ≡ Some (with_all_durable base)
      → WhereTold (state old) (λ before. state new ≡ Some (with_all_durable (after (primary_changes going files) before)))
      → state new ≡ Some (with_all_durable (after (primary_changes gone set) (with_all_durable base)))
  told_renewal old new going files going_is files_is told done =
      told_primaries state base set gone old new going files going_is files_is told done

  pub over_fall : (old new : D) → state old ≡ Some (with_all_durable (after (primary_changes gone set) (with_all_durable base)))
      → WhereTold (state old) (λ before. AddsOnly moment left_since old new (MayLeave (after guard_down before)))
      → AddsOnly moment left_since old new (StandsFor base.current (Some set))
  over_fall old new told adds =
      AddsOnly-more moment left_since old new (MayLeave (after guard_down (with_all_durable (after (primary_changes gone set) (with_all_durable base))))) Stays
      (λ left may. record {
        recovers = left_while_lowered base bytes set gone guarded backups (backups_may base.current set backups) gone_plain left may;
        others = others_then base.current renewed_now.current left others_renewed (others_left guard_down own_down renewed_now left may);
      })
      (adds (with_all_durable (after (primary_changes gone set) (with_all_durable base))) told)

  module _ (are : AreNamesOf base.current names) where
    pub over_tidying : (old new : D) (extra : List (List ℕ)) → extra ≡ filter (is_left_over true (Some set)) names
        → state old ≡ Some (with_all_durable (low base bytes set names guarded backups are))
        → WhereTold (state old) (λ before. AddsOnly moment left_since old new (MayLeave (after (removals extra) before)))
        → AddsOnly moment left_since old new (StandsFor base.current (Some set))
    over_tidying old new extra extra_is told adds =
        AddsOnly-more moment left_since old new
        (MayLeave (after (removals (leftover base bytes set names guarded backups are)) (with_all_durable (low base bytes set names guarded backups are)))) Stays
        (λ left may. record {
          recovers =
              left_while_tidied (low base bytes set names guarded backups are) (Some set) (leftover base bytes set names guarded backups are)
              (low_stands base bytes set names guarded backups are) (low_reads base bytes set names guarded backups are)
              (low_guard_apart base bytes set names guarded backups are) (low_apart base bytes set names guarded backups are) left may;
          others =
              others_then base.current (low base bytes set names guarded backups are).current left
              (others_then base.current renewed_now.current (low base bytes set names guarded backups are).current others_renewed
              (others_changed guard_down own_down renewed_now.current))
              (others_left (removals (leftover base bytes set names guarded backups are)) (own_leftover (Some set) names)
              (low base bytes set names guarded backups are) left may);
        })
        (subst (λ (extra : List (List ℕ)). AddsOnly moment left_since old new (MayLeave (after (removals extra) (with_all_durable (low base bytes set names guarded backups are))))) extra_is
        (adds (with_all_durable (low base bytes set names guarded backups are)) told))

    pub ends_guarded : (new : D) (extra : List (List ℕ)) → extra ≡ filter (is_left_over true (Some set)) names
        → state new ≡ Some (with_all_durable (after (removals extra) (with_all_durable (low base bytes set names guarded backups are))))
        → EndsAtRest (Some set) (state new)
    ends_guarded new extra extra_is told = (
      with_all_durable (after (removals (leftover base bytes set names guarded backups are)) (with_all_durable (low base bytes set names guarded backups are))),
      subst (λ (extra : List (List ℕ)). state new ≡ Some (with_all_durable (after (removals extra) (with_all_durable (low base bytes set names guarded backups are))))) extra_is told,
      record {
        settled =
            tidied_settled (low base bytes set names guarded backups are) (Some set) (leftover base bytes set names guarded backups are)
            (low_stands base bytes set names guarded backups are) (low_reads base bytes set names guarded backups are)
            (low_guard_apart base bytes set names guarded backups are) (low_apart base bytes set names guarded backups are)
            (low_own base bytes set names guarded backups are);
        current = low_current base bytes set names guarded backups are;
        durable = low_current base bytes set names guarded backups are;
      },
    )

module _ {D : Type 0} (state : D → Option DiskState) (moment : D → ℕ) (left_since : D → ℕ → FileMap → Type 0)
    (base : DiskState) (held : Option (List SetFile)) (names : List (List ℕ)) (unguarded : base.current guard_name ≡ None)
    (reads : primary_set base.current ≡ Ok held) (are : AreNamesOf base.current names) where
  pub over_rest : (old new : D) (extra : List (List ℕ)) → extra ≡ filter (is_left_over false held) names
      → state old ≡ Some (with_all_durable base)
      → WhereTold (state old) (λ before. AddsOnly moment left_since old new (MayLeave (after (removals extra) before)))
      → AddsOnly moment left_since old new (StandsFor base.current held)
  over_rest old new extra extra_is told adds =
      AddsOnly-more moment left_since old new (MayLeave (after (removals (rest base held names unguarded reads are)) (with_all_durable base)))
      (StandsFor base.current held)
      (λ left may. record {
        recovers =
            left_while_tidied base held (rest base held names unguarded reads are) (rest_stands base held names unguarded reads are) reads
            (rest_guard_apart base held names unguarded reads are) (rest_apart base held names unguarded reads are) left may;
        others = others_left (removals (rest base held names unguarded reads are)) (own_rest held names) base left may;
      })
      (subst (λ (extra : List (List ℕ)). AddsOnly moment left_since old new (MayLeave (after (removals extra) (with_all_durable base)))) extra_is
      (adds (with_all_durable base) told))

  pub rests_unguarded : (new : D) (extra : List (List ℕ)) → extra ≡ filter (is_left_over false held) names
      → state new ≡ Some (with_all_durable (after (removals extra) (with_all_durable base)))
      → Rests base.current held (state new)
  rests_unguarded new extra extra_is told = (
    with_all_durable (after (removals (rest base held names unguarded reads are)) (with_all_durable base)),
    subst (λ (extra : List (List ℕ)). state new ≡ Some (with_all_durable (after (removals extra) (with_all_durable base)))) extra_is told,
    record {
      settled =
          tidied_settled base held (rest base held names unguarded reads are) (rest_stands base held names unguarded reads are) reads
          (rest_guard_apart base held names unguarded reads are) (rest_apart base held names unguarded reads are)
          (rest_own base held names unguarded reads are);
      untouched = λ name foreign. refl;
      others = others_changed (removals (rest base held names unguarded reads are)) (own_rest held names) base.current;
    },
  )

  -- where the list is of version 2 it stays so
  pub ends_unguarded : (new : D) (extra : List (List ℕ)) → extra ≡ filter (is_left_over false held) names
      → state new ≡ Some (with_all_durable (after (removals extra) (with_all_durable base))) → IsCurrent base.current
      → EndsAtRest held (state new)
  unfolding rests_unguarded
  ends_unguarded new extra extra_is told current =
      let rests = rests_unguarded new extra extra_is told in (
        rests.0,
        rests.1,
        record {
          settled = rests.2.settled;
          current = rest_current base held names unguarded reads are current;
          durable = rest_current base held names unguarded reads are current;
        },
      )
