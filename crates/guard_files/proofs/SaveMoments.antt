-- What a stop leaves at each moment of a save.
use Rattle.std.proofs.Common.{◌≡◌, ℕ, true, List, [], map, Option, Some, Ok, inl, inr, ◌∙◌, subst}
use Rattle.desk_ports.specs.declared.file_sets.SetFile.{SetFile}
use Rattle.desk_ports.specs.FileMap.{FileMap, names_of}
use Rattle.desk_ports.specs.Disk.{DiskState, MayLeave, WhereTold, IsTouchedOnly, with_all_durable}
use Rattle.desk_ports.specs.Moments.{AddsOnly, LeavesOnly}
use Rattle.desk_ports.proofs.Moments.{AddsOnly-then, AddsOnly-more, LeavesOnly-from}
use Rattle.guard_files.specs.OwnName.{backup_name}
use Rattle.guard_files.specs.ListFile.{are_listable}
use Rattle.guard_files.specs.Recovery.{recover}
use Rattle.guard_files.specs.Settled.{IsSettled, gone_names, IsInSave, EndsSettled}
use Rattle.guard_files.specs.parts.Changes.{after, set_writes, primary_changes, guard_up, guard_down, backups_away}
use Rattle.guard_files.proofs.Stages.{left_in_backups, recover-unguarded}
use Rattle.guard_files.proofs.Primaries.{durable_only, renewed, left_while_renewed, left_while_lowered}
use Rattle.guard_files.proofs.Others.{AllOwn, own_backed, own_renewed, own_up, own_down, own_away, own_gone, CarriesOthers, carries_start, carries_next, others_in}
use Rattle.guard_files.proofs.Saving.{settled_stands, settled_primaries, backed, raised, last, cleared, left_while_backed, left_while_raised, left_while_cleared, raised_guard, raised_backups, gone_is_plain, cleared_current}

-- a stop of a store at rest leaves its set
pub settled_leaves : (held : Option (List SetFile)) (state : DiskState) → IsSettled held state → (left : FileMap)
    → MayLeave state left
    → recover left ≡ Ok held
settled_leaves held state settled left leaves =
    let stands = left_in_backups [] tt state (settled_stands held state settled) left leaves in
    recover-unguarded left stands.unguarded ∙ stands.same ∙ settled_primaries held state settled

module _ {D : Type 0} (state : D → Option DiskState) (moment : D → ℕ) (left_since : D → ℕ → FileMap → Type 0)
    (set : List SetFile) (held : Option (List SetFile)) (before : DiskState) (settled : IsSettled held before) (only : IsTouchedOnly before)
    (may : are_listable (names_of set) ≡ true) where
  abbrev pub leaves : D → D → Type 0
  leaves old new = AddsOnly moment left_since old new (IsInSave before held set)

  abbrev renewed_now : DiskState
  renewed_now =
      renewed (raised held set before settled only may) [] set (gone_names held set) (raised_guard held set before settled only may)
      (raised_backups held set before settled only may) may (gone_is_plain held set before settled only may)

  -- the files of others at the ends of the steps
  primaries_own : AllOwn (primary_changes (gone_names held set) set)
  primaries_own =
      own_renewed (gone_names held set) set (own_gone held set before.durable (settled_primaries held before settled)) may

  carries_backed : CarriesOthers before (with_all_durable (backed held set before settled only may))
  carries_backed = carries_next before before (set_writes backup_name set) (own_backed set may) only (carries_start before)

  carries_raised : CarriesOthers before (with_all_durable (raised held set before settled only may))
  carries_raised =
      carries_next before (with_all_durable (backed held set before settled only may)) guard_up own_up
      (durable_only (backed held set before settled only may)) carries_backed

  carries_renewed : CarriesOthers before (with_all_durable renewed_now)
  carries_renewed =
      carries_next before (with_all_durable (raised held set before settled only may)) (primary_changes (gone_names held set) set)
      primaries_own (durable_only (raised held set before settled only may)) carries_raised

  carries_last : CarriesOthers before (with_all_durable (last held set before settled only may))
  carries_last =
      carries_next before (with_all_durable renewed_now) guard_down own_down (durable_only renewed_now) carries_renewed

  over_backups : (old new : D) → state old ≡ Some before
      → WhereTold (state old) (λ before. AddsOnly moment left_since old new (MayLeave (after (set_writes backup_name set) before))) → leaves old new
  over_backups old new told adds =
      AddsOnly-more moment left_since old new (MayLeave (after (set_writes backup_name set) before)) (IsInSave before held set)
      (λ left leaves. record {
        sets = inl (left_while_backed held set before settled only may left leaves);
        others = others_in before before (set_writes backup_name set) (own_backed set may) (carries_start before) left leaves;
      }) (adds before told)

  over_guard : (old new : D) → state old ≡ Some (with_all_durable (backed held set before settled only may))
      → WhereTold (state old) (λ before. AddsOnly moment left_since old new (MayLeave (after guard_up before)))
      → leaves old new
  over_guard old new told adds =
      AddsOnly-more moment left_since old new (MayLeave (raised held set before settled only may)) (IsInSave before held set)
      (λ left leaves. record {
        sets = left_while_raised held set before settled only may left leaves;
        others = others_in before (with_all_durable (backed held set before settled only may)) guard_up own_up carries_backed left leaves;
      }) (adds _ told)

  over_primaries : (old new : D) (gone : List (List ℕ)) → gone ≡ gone_names held set
      → state old ≡ Some (with_all_durable (raised held set before settled only may))
      → WhereTold (state old) (λ before. AddsOnly moment left_since old new (MayLeave (after (primary_changes gone set) before))) → leaves old new
  over_primaries old new gone is told adds =
      AddsOnly-more moment left_since old new (MayLeave renewed_now) (IsInSave before held set)
      (λ left leaves. record {
        sets = inr (left_while_renewed (raised held set before settled only may) [] set (gone_names held set)
            (raised_guard held set before settled only may) (raised_backups held set before settled only may) may
            (gone_is_plain held set before settled only may) left leaves);
        others = others_in before (with_all_durable (raised held set before settled only may)) (primary_changes (gone_names held set) set)
            primaries_own carries_raised left leaves;
      })
      (subst (λ gone. AddsOnly moment left_since old new (MayLeave (after (primary_changes gone set) (with_all_durable (raised held set before settled only may)))))
      is (adds _ told))

  over_lowering : (old new : D) → state old ≡ Some (with_all_durable renewed_now)
      → WhereTold (state old) (λ before. AddsOnly moment left_since old new (MayLeave (after guard_down before)))
      → leaves old new
  over_lowering old new told adds =
      AddsOnly-more moment left_since old new (MayLeave (last held set before settled only may)) (IsInSave before held set)
      (λ left leaves. record {
        sets = inr (left_while_lowered (raised held set before settled only may) [] set (gone_names held set)
            (raised_guard held set before settled only may) (raised_backups held set before settled only may) may
            (gone_is_plain held set before settled only may) left leaves);
        others = others_in before (with_all_durable renewed_now) guard_down own_down carries_renewed left leaves;
      })
      (adds _ told)

  over_cleaning : (old new : D) (backups : List (List ℕ)) → backups ≡ map backup_name (names_of set)
      → state old ≡ Some (with_all_durable (last held set before settled only may))
      → WhereTold (state old) (λ before. AddsOnly moment left_since old new (MayLeave (after (backups_away backups) before))) → leaves old new
  over_cleaning old new backups are told adds =
      AddsOnly-more moment left_since old new (MayLeave (cleared held set before settled only may)) (IsInSave before held set)
      (λ left leaves. record {
        sets = inr (left_while_cleared held set before settled only may left leaves);
        others = others_in before (with_all_durable (last held set before settled only may))
            (backups_away (map backup_name (names_of set))) (own_away set may) carries_last left leaves;
      })
      (subst (λ backups. AddsOnly moment left_since old new (MayLeave (after (backups_away backups) (with_all_durable (last held set before settled only may)))))
      are (adds _ told))

  -- the states at the ends of the steps
  told_backed : (old new : D) → state old ≡ Some before
      → WhereTold (state old) (λ before. state new ≡ Some (with_all_durable (after (set_writes backup_name set) before)))
      → state new ≡ Some (with_all_durable (backed held set before settled only may))
  told_backed old new told done = done before told

  told_raised : (old new : D) → state old ≡ Some (with_all_durable (backed held set before settled only may))
      → WhereTold (state old) (λ before. state new ≡ Some (with_all_durable (after guard_up before)))
      → state new ≡ Some (with_all_durable (raised held set before settled only may))
  told_raised old new told done = done _ told

  told_renewed : (old new : D) (gone : List (List ℕ)) → gone ≡ gone_names held set
      → state old ≡ Some (with_all_durable (raised held set before settled only may))
      → WhereTold (state old) (λ before. state new ≡ Some (with_all_durable (after (primary_changes gone set) before)))
      → state new ≡ Some (with_all_durable renewed_now)
  told_renewed old new gone is told done =
      subst (λ gone. state new ≡ Some (with_all_durable (after (primary_changes gone set) (with_all_durable (raised held set before settled only may))))) is (done _ told)

  told_lowered : (old new : D) → state old ≡ Some (with_all_durable renewed_now)
      → WhereTold (state old) (λ before. state new ≡ Some (with_all_durable (after guard_down before)))
      → state new ≡ Some (with_all_durable (last held set before settled only may))
  told_lowered old new told done = done _ told

  told_cleared : (old new : D) (backups : List (List ℕ)) → backups ≡ map backup_name (names_of set)
      → state old ≡ Some (with_all_durable (last held set before settled only may))
      → WhereTold (state old) (λ before. state new ≡ Some (after (backups_away backups) before))
      → EndsSettled set (state new)
  told_cleared old new backups are told done = (
    cleared held set before settled only may,
    subst (λ backups. state new ≡ Some (after (backups_away backups) (with_all_durable (last held set before settled only may)))) are (done _ told),
    cleared_current held set before settled only may,
  )

  -- from a store at rest on
  from_rest : (old new : D) → ((left : FileMap) → left_since old (moment old) left → MayLeave before left)
      → leaves old new
      → LeavesOnly moment left_since old new (IsInSave before held set)
  from_rest old new now adds =
      LeavesOnly-from moment left_since old new (IsInSave before held set)
      (λ left was. record {
        sets = inl (settled_leaves held before settled left (now left was));
        others = λ name foreign free. now left was name free;
      }) adds

-- What is known at the start of a save: the store is at rest, and the disk tells its state.
pub record Start {D : Type 0} (state : D → Option DiskState) (moment : D → ℕ) (left_since : D → ℕ → FileMap → Type 0)
    (set : List SetFile) (held : Option (List SetFile)) (before : DiskState) (first : D) : Type 0 where
  pub settled : IsSettled held before
  pub only : IsTouchedOnly before
  pub may : are_listable (names_of set) ≡ true
  pub told : state first ≡ Some before
  pub now : (left : FileMap) → left_since first (moment first) left → MayLeave before left

pub start_of : {D : Type 0} (state : D → Option DiskState) (moment : D → ℕ) (left_since : D → ℕ → FileMap → Type 0)
    (set : List SetFile) (held : Option (List SetFile)) (before : DiskState) (first : D) → IsSettled held before
    → WhereTold (state first) IsTouchedOnly → are_listable (names_of set) ≡ true → state first ≡ Some before
    → ((left : FileMap) → WhereTold (state first) (λ now. left_since first (moment first) left → MayLeave now left))
    → Start state moment left_since set held before first
start_of state moment left_since set held before first settled only may told now = record {
  settled = settled;
  only = only before told;
  may = may;
  told = told;
  now = λ left was. now left before told was;
}

-- So far in a save: what the disk tells now, and that a stop since the start left the set before or the set after.
pub record SoFar {D : Type 0} (state : D → Option DiskState) (moment : D → ℕ) (left_since : D → ℕ → FileMap → Type 0)
    (set : List SetFile) (held : Option (List SetFile)) (before : DiskState) (first now : D) (reached : DiskState) : Type 0 where
  pub tells : state now ≡ Some reached
  pub adds : AddsOnly moment left_since first now (IsInSave before held set)

module _ {D : Type 0} {state : D → Option DiskState} {moment : D → ℕ} {left_since : D → ℕ → FileMap → Type 0} {set : List SetFile}
    {held : Option (List SetFile)} {before : DiskState} {first : D} (start : Start state moment left_since set held before first) where
  -- such a step adds
  abbrev Adds : (DiskState → DiskState) → D → D → Type 0
  Adds step old new = WhereTold (state old) (λ was. AddsOnly moment left_since old new (MayLeave (step was)))

  -- and ends durable
  abbrev Ends : (DiskState → DiskState) → D → D → Type 0
  Ends step old new = WhereTold (state old) (λ was. state new ≡ Some (with_all_durable (step was)))

  abbrev At : D → DiskState → Type 0
  At now reached = SoFar state moment left_since set held before first now reached

  abbrev Stopped : D → Type 0
  Stopped new = LeavesOnly moment left_since first new (IsInSave before held set)

  abbrev at_backed : DiskState
  at_backed = with_all_durable (backed held set before start.settled start.only start.may)

  abbrev at_raised : DiskState
  at_raised = with_all_durable (raised held set before start.settled start.only start.may)

  abbrev at_renewed : DiskState
  at_renewed = with_all_durable (renewed_now state moment left_since set held before start.settled start.only start.may)

  abbrev at_last : DiskState
  at_last = with_all_durable (last held set before start.settled start.only start.may)

  stopped : (new : D) → AddsOnly moment left_since first new (IsInSave before held set) → Stopped new
  stopped new adds = from_rest state moment left_since set held before start.settled start.only start.may first new start.now adds

  onward : {old : D} {reached : DiskState} (new : D) → At old reached
      → AddsOnly moment left_since old new (IsInSave before held set)
      → AddsOnly moment left_since first new (IsInSave before held set)
  onward {old} new so_far adds = AddsOnly-then moment left_since first old new (IsInSave before held set) so_far.adds adds

  -- the backups
  pub in_backups : (new : D) → Adds (after (set_writes backup_name set)) first new → Stopped new
  in_backups new adds =
      stopped new (over_backups state moment left_since set held before start.settled start.only start.may first new start.told adds)

  pub past_backups : (new : D) → Adds (after (set_writes backup_name set)) first new
      → Ends (after (set_writes backup_name set)) first new
      → At new at_backed
  past_backups new adds ends = record {
    tells = told_backed state moment left_since set held before start.settled start.only start.may first new start.told ends;
    adds = over_backups state moment left_since set held before start.settled start.only start.may first new start.told adds;
  }

  -- the guard
  over_guard_on : {old : D} (new : D) → At old at_backed → Adds (after guard_up) old new
      → AddsOnly moment left_since first new (IsInSave before held set)
  over_guard_on {old} new so_far adds =
      onward new so_far
      (over_guard state moment left_since set held before start.settled start.only start.may old new so_far.tells adds)

  pub in_guard : {old : D} (new : D) → At old at_backed → Adds (after guard_up) old new → Stopped new
  in_guard new so_far adds = stopped new (over_guard_on new so_far adds)

  pub past_guard : {old : D} (new : D) → At old at_backed → Adds (after guard_up) old new
      → Ends (after guard_up) old new → At new at_raised
  past_guard {old} new so_far adds ends = record {
    tells = told_raised state moment left_since set held before start.settled start.only start.may old new so_far.tells ends;
    adds = over_guard_on new so_far adds;
  }

  -- the primaries
  over_primaries_on : {old : D} (new : D) (gone : List (List ℕ)) → gone ≡ gone_names held set → At old at_raised
      → Adds (after (primary_changes gone set)) old new
      → AddsOnly moment left_since first new (IsInSave before held set)
  over_primaries_on {old} new gone is so_far adds =
      onward new so_far
      (over_primaries state moment left_since set held before start.settled start.only start.may old new gone is so_far.tells adds)

  pub in_primaries : {old : D} (new : D) (gone : List (List ℕ)) → gone ≡ gone_names held set → At old at_raised
      → Adds (after (primary_changes gone set)) old new → Stopped new
  in_primaries new gone is so_far adds = stopped new (over_primaries_on new gone is so_far adds)

  pub past_primaries : {old : D} (new : D) (gone : List (List ℕ)) → gone ≡ gone_names held set → At old at_raised
      → Adds (after (primary_changes gone set)) old new → Ends (after (primary_changes gone set)) old new
      → At new at_renewed
  past_primaries {old} new gone is so_far adds ends = record {
    tells = told_renewed state moment left_since set held before start.settled start.only start.may old new gone is so_far.tells ends;
    adds = over_primaries_on new gone is so_far adds;
  }

  -- the guard's removal
  over_lowering_on : {old : D} (new : D) → At old at_renewed → Adds (after guard_down) old new
      → AddsOnly moment left_since first new (IsInSave before held set)
  over_lowering_on {old} new so_far adds =
      onward new so_far
      (over_lowering state moment left_since set held before start.settled start.only start.may old new so_far.tells adds)

  pub in_lowering : {old : D} (new : D) → At old at_renewed → Adds (after guard_down) old new → Stopped new
  in_lowering new so_far adds = stopped new (over_lowering_on new so_far adds)

  pub past_lowering : {old : D} (new : D) → At old at_renewed → Adds (after guard_down) old new
      → Ends (after guard_down) old new → At new at_last
  past_lowering {old} new so_far adds ends = record {
    tells = told_lowered state moment left_since set held before start.settled start.only start.may old new so_far.tells ends;
    adds = over_lowering_on new so_far adds;
  }

  -- the backups' removal, after which no sync follows
  pub in_cleaning : {old : D} (new : D) (backups : List (List ℕ)) → backups ≡ map backup_name (names_of set)
      → At old at_last
      → Adds (after (backups_away backups)) old new → Stopped new
  in_cleaning {old} new backups are so_far adds =
      stopped new (onward new so_far
      (over_cleaning state moment left_since set held before start.settled start.only start.may old new backups are so_far.tells adds))

  pub past_cleaning : {old : D} (new : D) (backups : List (List ℕ)) → backups ≡ map backup_name (names_of set)
      → At old at_last
      → WhereTold (state old) (λ was. state new ≡ Some (after (backups_away backups) was)) → EndsSettled set (state new)
  past_cleaning {old} new backups are so_far ends =
      told_cleared state moment left_since set held before start.settled start.only start.may old new backups are so_far.tells ends
