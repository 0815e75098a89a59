-- Different states have different sets, and a set has a fault exactly where no state has it.
use Rattle.std.proofs.Common.{◌≡◌, ◌≢◌, ◌↔◌, List, IsSome, Result, Ok, Err, refl, sym, ap, ◌∙◌}
use Rattle.std.proofs.lemmas.Bool.{true≢false}
use Rattle.desk_ports.specs.FileMap.{NamesRise, names_of}
use Rattle.desk_ports.specs.declared.file_sets.SetFile.{SetFile}
use Rattle.desk_state.specs.DeskState.{DeskState}
use Rattle.desk_state.specs.IsDesk.{IsDesk}
use Rattle.set_text.specs.Fault.{Fault}
use Rattle.set_text.specs.Files.{files}
use Rattle.set_text.specs.IsSpelt.{IsSpelt}
use Rattle.set_text.specs.Reading.{read_of, fault_in, first_fault}
use Rattle.set_text.proofs.round.BackAgain.{written-is-read}
use Rattle.set_text.proofs.round.Desks.{read-is-desk, read-is-spelt}
use Rattle.set_text.proofs.round.OneSet.{read-is-written}
use Rattle.set_text.proofs.round.Tests.{same-ok}

pub same-state : (desk other : DeskState) → IsDesk desk → IsSpelt desk → IsDesk other → IsSpelt other
    → files desk ≡ files other
    → desk ≡ other
same-state desk other is spelt other_is other_spelt same =
    same-ok desk other (read_of (files desk)) (written-is-read desk is spelt)
    (ap read_of same ∙ written-is-read other other_is other_spelt)

no-fault : (result : Result DeskState Fault) (desk : DeskState) → result ≡ Ok desk → IsSome (fault_in result) → ⊥
no-fault (Ok other) desk is some = true≢false (sym some)
no-fault (Err fault) desk is some = cc

pub exactly : (set : List SetFile) → NamesRise (names_of set)
    → IsSome (first_fault set) ↔ ((desk : DeskState) → IsDesk desk → IsSpelt desk → set ≢ files desk)
exactly set rise = (
  λ some desk is spelt same. no-fault (read_of set) desk (ap read_of same ∙ written-is-read desk is spelt) some,
  λ none. by (read_of set) refl none,
)
  where
    by : (result : Result DeskState Fault) → read_of set ≡ result
        → ((desk : DeskState) → IsDesk desk → IsSpelt desk → set ≢ files desk) → IsSome (fault_in result)
    by (Err fault) is none = refl
    by (Ok desk) is none =
        absurd (none desk (read-is-desk set desk is) (read-is-spelt set desk is) (read-is-written set desk rise is))
