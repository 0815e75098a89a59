use Rattle.std.proofs.Common.{◌≡◌, sym, subst, rules}
use Rattle.desk_ports.specs.FileName.{IsFileName}
use Rattle.set_text.specs.FileNames.{load_file}
use Rattle.set_text.proofs.NamingFiles.{load_file-is}
use Rattle.set_text.proofs.file_names.load_file.Goals as goal

pub known_name-requires : goal.known_name-requires
known_name-requires c =
    let is : c.deref.result.now ≡ load_file c.args.package.now = search rules in
    subst IsFileName (sym is) (load_file-is c.args.package.now c.as_slice.ensures.ident)
