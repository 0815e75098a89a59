use Rattle.std.proofs.Common.{◌∙◌, ap, map, List}
use Rattle.desk_ports.specs.declared.file_sets.SetFile.{SetFile}
use Rattle.desk_ports.specs.FileMap.{names_of}
use Rattle.guard_files.specs.OwnName.{backup_name}
use Rattle.guard_files.specs.ListFile.{saved_list, are_listable}
use Rattle.guard_files.proofs.Lists.{listable_set}
use Rattle.guard_files.proofs.prepared.Prepared.new.Goals as goal

pub backups_of-requires : goal.backups_of-requires
backups_of-requires c =
    ap (λ (set : List SetFile). are_listable (names_of set)) c.as_slice.ensures.files
    ∙ listable_set (names_of c.args.set) c.requires c.as_slice.ensures.rising

pub invariant_of-result : goal.invariant_of-result
invariant_of-result c = record {
  backups = c.in_ok-backups.ensures ∙ ap (λ (set : List SetFile). map backup_name (names_of set)) c.as_slice.ensures.files;
  list = c.in_ok-list.ensures ∙ ap (λ (set : List SetFile). saved_list (names_of set)) c.as_slice-2.ensures.files;
  listable = listable_set (names_of c.args.set) c.requires c.as_slice.ensures.rising;
}
