use Rattle.std.proofs.Common.{◌≡◌, true, ap, ◌∙◌, sym, rules}
use Rattle.std.specs.List.{list_all}
use Rattle.std.proofs.lemmas.List.Folds.{list_all-map}
use Rattle.std.proofs.lemmas.List.Sums.{AllPass-from_list_all}
use Rattle.desk_ports.specs.declared.file_sets.SetFile.{SetFile}
use Rattle.desk_ports.specs.FileMap.{names_of}
use Rattle.guard_files.specs.OwnName.{is_listable as may_stand}
use Rattle.cases_disk.proofs.vaults.replace.Goals as goal

-- the test of each name passed
pub prepare-requires-clause-listable : goal.prepare-requires-clause-listable
prepare-requires-clause-listable c =
    let passed : c.are_listable.result ≡ true = search rules in
    AllPass-from_list_all may_stand (names_of c.args.set)
    (list_all-map may_stand (λ (file : SetFile). file.name) c.args.set
    ∙ ap (list_all (λ (file : SetFile). may_stand file.name)) (sym c.as_slice.ensures.files)
    ∙ sym c.are_listable.ensures ∙ passed)
