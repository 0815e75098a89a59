use Rattle.std.proofs.lemmas.Bool.{and_parts}
use Rattle.guard_files.proofs.Lists.{listable_at}
use Rattle.guard_files.proofs.list_files.backups_of.Goals as goal

pub backup_of-requires : goal.backup_of-requires
backup_of-requires c =
    listable_at c.args.files.now c.loop-file.file-index c.file-item.result (and_parts _ _ c.requires).0 c.loop-file-test.true c.file-item.is
