use Rattle.std.proofs.Common.{◌≡◌, [], ◌∷◌, ◌++◌, ◌∙◌, ap, subst, sym}
use Rattle.desk_ports.specs.FileName.{IsFileName}
use Rattle.guard_files.specs.OwnName.{backup_name}
use Rattle.guard_files.proofs.FileNames.{IsFileName-backup}
use Rattle.guard_files.proofs.list_files.backup_of.Goals as goal

pub fixed_name-requires : goal.fixed_name-requires
fixed_name-requires c =
    let is : c.as_slice-2.result.now ≡ backup_name c.args.name.now =
    c.as_slice-2.ensures ∙ c.in_ok-append-2.ensures.ok
    ∙ ap (λ bytes. bytes ++ 126 ∷ []) (c.in_ok-append.ensures.ok ∙ ap (λ bytes. bytes ++ c.as_slice.result.now) c.new-bytes.ensures ∙ c.as_slice.ensures.bytes) in
    subst IsFileName (sym is) (IsFileName-backup c.args.name.now c.requires)
