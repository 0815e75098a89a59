-- From what a store recovers to, to what its folder keeps.
use Rattle.std.proofs.Common.{◌≡◌, ℕ, List, Option, Some, Result, Ok, Err, ◌⊎◌, ◌<◌, refl, ap, sym, subst, ◌∙◌, inl, inr}
use Rattle.desk_ports.specs.declared.file_sets.SetFile.{SetFile}
use Rattle.desk_ports.specs.FileMap.{FileMap}
use Rattle.desk_ports.specs.Disk.{DiskState, WhereTold, with_all_durable}
use Rattle.desk_ports.specs.Moments.{LeavesOnly}
use Rattle.desk_ports.proofs.Moments.{LeavesOnly-more}
use Rattle.guard_files.specs.Mounted.{EndsAtRest, IfDamaged as IfStoreDamaged}
use Rattle.guard_files.specs.declared.refusals.VaultRefusal.{VaultRefusal}
use Rattle.guard_files.specs.declared.refusals.VaultRefusal.TheVariants as vault
use Rattle.guard_files.specs.Recovery.{Recovered, recover}
use Rattle.guard_files.specs.Settled.{IsLeftCurrent, IsInSave, KeepsOthers, IsBeforeOrAfter as IsSetBeforeOrAfter}
use Rattle.guard_files.proofs.SaveMoments.{settled_leaves}
use Rattle.desk_state.specs.DeskState.{DeskState}
use Rattle.set_text.specs.Fault.{Fault, whole}
use Rattle.set_text.specs.FileNames.{stamp}
use Rattle.set_text.specs.Reading.{read_of}
use Rattle.desk_keeper.specs.Kept.{desk_of_set, Standing, of_store, of_set, standing_of_set, standing_of, standing, as_told, kept}
use Rattle.desk_keeper.specs.Keeping.{IsKept, EndsKept, IfDamaged, LeavesDamaged, SparesDamaged, IsOlder, IsBeforeOrAfter, count_after_refusal}
use Rattle.desk_keeper.specs.parts.Reading.{RefusesSet, NamesStamp, refused}
use Rattle.desk_keeper.specs.declared.refusals.KeeperRefusal.{KeeperRefusal}
use Rattle.desk_keeper.specs.declared.refusals.KeeperRefusal.TheVariants.{StoreFault, Damaged, Memory}

-- what was recovered, as a refusal tells it
abbrev pub desk_of : Recovered → Result DeskState Fault
desk_of (Err file) = Err (whole file)
desk_of (Ok held) = desk_of_set held

told-set : (read : Result DeskState Fault) → as_told (standing_of_set read) ≡ read
told-set (Ok desk) = refl
told-set (Err fault) = refl

told-of : (found : Recovered) → as_told (standing_of found) ≡ desk_of found
told-of (Err file) = refl
told-of (Ok held) = told-set (desk_of_set held)

pub kept-of : (files : FileMap) (found : Recovered) → recover files ≡ found → kept files ≡ desk_of found
unfolding kept standing
kept-of files found same = ap (λ (at : Recovered). as_told (standing_of at)) same ∙ told-of found

-- what keeps a policy state stands for it
pub standing-kept : (files : FileMap) (desk : DeskState) → kept files ≡ Ok desk → standing files ≡ Ok desk
unfolding kept
standing-kept files desk is = by_standing (standing files) is
  where
    by_standing : (found : Standing) → as_told found ≡ Ok desk → found ≡ Ok desk
    by_standing (Ok other) is = let same : other ≡ desk = cc in ap Ok same
    by_standing (Err (of_store file)) is = cc
    by_standing (Err (of_set fault)) is = cc

pub standing-alike : (files others : FileMap) → recover files ≡ recover others → standing files ≡ standing others
unfolding standing
standing-alike files others same = ap standing_of same

-- a store at rest keeps what its set stands for
pub kept-at-rest : (desk : DeskState) (held : Option (List SetFile)) (state : DiskState) → desk_of_set held ≡ Ok desk
    → IsLeftCurrent held state
    → IsKept desk held state
kept-at-rest desk held state stands left_current = record {
  stands = stands;
  settled = left_current.settled;
  alone = λ left leaves. kept-of left (Ok held) (settled_leaves held state left_current.settled left leaves) ∙ stands;
  current = left_current.current;
  durable = left_current.durable;
}

-- what recovers to one of two sets stands for one of two states
pub one-of : (before next : DeskState) (held : Option (List SetFile)) (set : List SetFile)
    → desk_of_set held ≡ Ok before
    → read_of set ≡ Ok next
    → (left : FileMap)
    → IsSetBeforeOrAfter held (Some set) left
    → IsBeforeOrAfter before next left
one-of before next held set stands reads left (inl same) = inl (kept-of left (Ok held) same ∙ stands)
one-of before next held set stands reads left (inr same) = inr (kept-of left (Ok (Some set)) same ∙ reads)

module _ {D : Type 0} (moment : D → ℕ) (left_since : D → ℕ → FileMap → Type 0) (old new : D) where
  pub moments-one-of : (at : DiskState) (before next : DeskState) (held : Option (List SetFile)) (set : List SetFile)
      → desk_of_set held ≡ Ok before
      → read_of set ≡ Ok next
      → LeavesOnly moment left_since old new (IsInSave at held set)
      → LeavesOnly moment left_since old new (IsBeforeOrAfter before next)
  moments-one-of at before next held set stands reads leaves =
      LeavesOnly-more moment left_since old new (IsInSave at held set) (IsBeforeOrAfter before next)
      (λ left is. one-of before next held set stands reads left is.sets) leaves

  pub moments-others : (at : DiskState) (held : Option (List SetFile)) (set : List SetFile)
      → LeavesOnly moment left_since old new (IsInSave at held set) → LeavesOnly moment left_since old new (KeepsOthers at)
  moments-others at held set leaves =
      LeavesOnly-more moment left_since old new (IsInSave at held set) (KeepsOthers at) (λ left is. is.others) leaves

-- what a damaged store and a damaged set are called
pub store-damage : (told : Option DiskState) (Left : DiskState → Type 0) (refusal : VaultRefusal)
    → IfStoreDamaged refusal (λ file. WhereTold told (λ before. (recover before.current ≡ Err file) × Left before))
    → IfDamaged (refused refusal) (λ fault. WhereTold told (λ before. kept before.current ≡ Err fault))
store-damage told Left vault.StoreFault damaged = tt
store-damage told Left (vault.Damaged file) damaged =
    λ before said. kept-of before.current (Err file) (damaged before said).0
store-damage told Left (vault.Memory error) damaged = tt

pub set-damage : (told : Option DiskState) (held : Option (List SetFile)) (refusal : KeeperRefusal)
    → RefusesSet held refusal
    → WhereTold told (λ before. recover before.current ≡ Ok held)
    → IfDamaged refusal (λ fault. WhereTold told (λ before. kept before.current ≡ Err fault))
set-damage told held StoreFault refuses found = tt
set-damage told held (Damaged file line) refuses found =
    λ before said. kept-of before.current (Ok held) (found before said) ∙ refuses
set-damage told held (Memory error) refuses found = tt

pub at-rest-kept : (desk : DeskState) (held : Option (List SetFile)) (told : Option DiskState)
    → desk_of_set held ≡ Ok desk
    → EndsAtRest held told
    → EndsKept desk held told
at-rest-kept desk held told stands (after, is, settled) = (after, is, kept-at-rest desk held after stands settled)

-- a folder that stands for no state, and one that stands for an older one
pub first-damage : (told : Option DiskState) (last : DeskState) (refusal : KeeperRefusal)
    → IfDamaged refusal (λ fault. WhereTold told (λ before. kept before.current ≡ Err fault))
    → IfDamaged refusal
    (λ fault. WhereTold told (λ before. (kept before.current ≡ Err fault) ⊎ IsOlder last before.current fault))
first-damage told last StoreFault damaged = tt
first-damage told last (Damaged file line) damaged = λ before said. inl (damaged before said)
first-damage told last (Memory error) damaged = tt

pub older-damage : (told : Option DiskState) (last found : DeskState) (refusal : KeeperRefusal) → NamesStamp refusal
    → found.commit < last.commit
    → WhereTold told (λ before. kept before.current ≡ Ok found)
    → IfDamaged refusal
    (λ fault. WhereTold told (λ before. (kept before.current ≡ Err fault) ⊎ IsOlder last before.current fault))
older-damage told last found StoreFault names older finds = tt
older-damage told last found (Damaged file line) names older finds =
    λ before said. inr (
      found,
      finds before said,
      older,
      ap (λ name. record { file = name; line = line }) names.0
          ∙ ap (λ number. record { file = stamp; line = number }) names.1,
    )
older-damage told last found (Memory error) names older finds = tt

-- no call of the disk failed where an older state was found
pub stamp-count : (refusal : KeeperRefusal) (count : ℕ) → NamesStamp refusal → count_after_refusal refusal count ≡ count
stamp-count StoreFault count names = absurd names
stamp-count (Damaged file line) count names = refl
stamp-count (Memory error) count names = refl

-- a damaged folder was left as it was found: where it was looked at, and where the set that was found was refused
pub store-unchanged : (told now : Option DiskState) (refusal : VaultRefusal)
    → IfStoreDamaged refusal
    (λ file. WhereTold told (λ before. (recover before.current ≡ Err file) × (now ≡ Some (with_all_durable before))))
    → WhereTold told (λ before. LeavesDamaged (refused refusal) before now)
store-unchanged told now vault.StoreFault damaged = λ before said. tt
store-unchanged told now (vault.Damaged named) damaged = λ before said. (damaged before said).1
store-unchanged told now (vault.Memory error) damaged = λ before said. tt

pub looked-unchanged : (before : DiskState) (now : Option DiskState) (refusal : KeeperRefusal)
    → now ≡ Some (with_all_durable before) → LeavesDamaged refusal before now
looked-unchanged before now StoreFault is = tt
looked-unchanged before now (Damaged file line) is = is
looked-unchanged before now (Memory error) is = tt

-- behind the judgement no damage is told
pub settled-damage : (refusal : VaultRefusal) (P : Fault → Type 0) → IfStoreDamaged refusal (λ file. ⊥)
    → IfDamaged (refused refusal) P
settled-damage vault.StoreFault P none = tt
settled-damage (vault.Damaged file) P none = absurd none
settled-damage (vault.Memory error) P none = tt

-- what stands for a state is not damaged
pub kept-spared : {D : Type 0} (moment : D → ℕ) (left_since : D → ℕ → FileMap → Type 0) (old new : D) (before : DiskState)
    (desk : DeskState)
    → kept before.current ≡ Ok desk → SparesDamaged moment left_since old new before
kept-spared moment left_since old new before desk stands fault is = absurd (kept_or_damaged (sym stands ∙ is))
  where
    kept_or_damaged : Ok desk ≡ Err fault → ⊥
    kept_or_damaged same = cc

-- ---- what is read behind a refused mount

same-told : (told : Option DiskState) (one other : DiskState) → told ≡ Some one → told ≡ Some other → one ≡ other
same-told told one other first second = let same = sym first ∙ second in cc

-- it is damaged as it was told, since it is what was there
pub still-damaged : (told now : Option DiskState) (Is : FileMap → Fault → Type 0) (refusal : KeeperRefusal)
    → IfDamaged refusal (λ fault. WhereTold told (λ before. Is before.current fault))
    → WhereTold told (λ before. LeavesDamaged refusal before now)
    → WhereTold told (λ before. IfDamaged refusal (λ fault. WhereTold now (λ after. Is after.current fault)))
still-damaged told now Is StoreFault damaged left before said = tt
still-damaged told now Is (Damaged file line) damaged left before said =
    λ after is.
    subst (λ (at : DiskState). Is at.current (record { file = file; line = line }))
    (same-told now (with_all_durable before) after (left before said) is) (damaged before said)
still-damaged told now Is (Memory error) damaged left before said = tt
