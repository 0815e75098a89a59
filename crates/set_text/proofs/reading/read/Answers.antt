use Rattle.std.proofs.Common.{◌≡◌, List, Result, Ok, Err, IfOk, subst, sym}
use Rattle.desk_ports.specs.FileMap.{NamesRise, names_of}
use Rattle.desk_ports.specs.declared.file_sets.SetFile.{SetFile}
use Rattle.desk_state.specs.DeskState.{DeskState}
use Rattle.set_text.specs.Files.{files}
use Rattle.set_text.specs.Reading.{read_of}
use Rattle.set_text.specs.declared.refusals.TextRefusal.{TextRefusal}
use Rattle.set_text.proofs.round.OneSet.{read-is-written}
use Rattle.set_text.proofs.reading.read.Goals as goal

written-again : (set : List SetFile) → NamesRise (names_of set) → (read : Result DeskState TextRefusal)
    → IfOk read (λ desk. read_of set ≡ Ok desk) → IfOk read (λ desk. files desk ≡ set)
written-again set rise (Ok desk) is = sym (read-is-written set desk rise is)
written-again set rise (Err refusal) is = tt

pub returns-in-Ok-clause-again : goal.returns-in-Ok-clause-again
returns-in-Ok-clause-again c =
    subst (λ (set : List SetFile). IfOk c.with_template.result
    (λ desk. files desk ≡ set)) c.as_slice-files.ensures.files
    (written-again c.as_slice-files.result.now
    (subst (λ (set : List SetFile). NamesRise (names_of set))
    (sym c.as_slice-files.ensures.files) c.as_slice-files.ensures.rising)
    c.with_template.result c.with_template.ensures.read)
