-- A mount from its entry on. A stop leaves what one at entry may leave: while the folder is looked at, since nothing is changed
-- yet, and behind that, where it leaves what recovers as what was found.
use Rattle.std.proofs.Common.{◌≡◌, ℕ, List, Option, Ok, ⊎_elim, refl, sym, ◌∙◌}
use Rattle.desk_ports.specs.declared.file_sets.SetFile.{SetFile}
use Rattle.desk_ports.specs.FileMap.{FileMap}
use Rattle.desk_ports.specs.Disk.{DiskState, MayLeave}
use Rattle.desk_ports.specs.Moments.{AddsOnly, LeavesOnly}
use Rattle.desk_ports.proofs.Moments.{AddsOnly-then, AddsOnly-more, LeavesOnly-more}
use Rattle.guard_files.specs.Recovery.{recover}
use Rattle.guard_files.specs.Mounted.{RecoversAsAllowed, StandsFor}

module _ {D : Type 0} (moment : D → ℕ) (left_since : D → ℕ → FileMap → Type 0) (before : DiskState) where
  at_entry : (left : FileMap) → MayLeave before left → RecoversAsAllowed before left
  at_entry left may = (left, may, refl, λ name foreign free. may name free)

  pub in_survey : (first new : D) → LeavesOnly moment left_since first new (MayLeave before)
      → LeavesOnly moment left_since first new (RecoversAsAllowed before)
  in_survey first new leaves = LeavesOnly-more moment left_since first new (MayLeave before) (RecoversAsAllowed before) at_entry leaves

  module _ (only : MayLeave before before.current) (held : Option (List SetFile)) (is : recover before.current ≡ Ok held) where
    as_found : (left : FileMap) → StandsFor before.current held left → RecoversAsAllowed before left
    as_found left stands =
        (before.current, only, stands.recovers ∙ sym is, λ name foreign free. stands.others name foreign ∙ only name free)

    pub behind_survey : (first mid new : D) → LeavesOnly moment left_since first mid (MayLeave before)
        → AddsOnly moment left_since mid new (StandsFor before.current held)
        → LeavesOnly moment left_since first new (RecoversAsAllowed before)
    behind_survey first mid new leaves adds = record {
      each = λ left was.
          ⊎_elim (λ then. at_entry left (leaves.each left then)) (as_found left)
          (adds.nothing_else (moment first) left leaves.adds.later was);
      adds =
          AddsOnly-then moment left_since first mid new (RecoversAsAllowed before)
          (AddsOnly-more moment left_since first mid (MayLeave before) (RecoversAsAllowed before) at_entry leaves.adds)
          (AddsOnly-more moment left_since mid new (StandsFor before.current held) (RecoversAsAllowed before) as_found adds);
    }
