use Rattle.std.proofs.Common.{◌≡◌, sym, subst, rules}
use Rattle.desk_ports.specs.FileName.{IsFileName}
use Rattle.set_text.specs.FileNames.{bucket_file}
use Rattle.set_text.proofs.NamingFiles.{bucket_file-is}
use Rattle.set_text.proofs.file_names.bucket_file.Goals as goal

pub known_name-requires : goal.known_name-requires
known_name-requires c =
    let is : c.deref.result.now ≡ bucket_file c.args.bucket.now = search rules in
    subst IsFileName (sym is) (bucket_file-is c.args.bucket.now c.as_slice.ensures.text)
