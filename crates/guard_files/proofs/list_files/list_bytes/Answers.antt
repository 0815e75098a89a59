use Rattle.std.proofs.Common.{◌≡◌, ◌++◌, [], ◌∷◌, take, sym, ◌∙◌, ap, append_assoc}
use Rattle.desk_ports.specs.FileMap.{names_of}
use Rattle.guard_files.specs.ListFile.{list_text, version_text, saved_list}
use Rattle.guard_files.proofs.Lists.{list_text-push}
use Rattle.guard_files.proofs.Rows.{named_so_far}
use Rattle.guard_files.proofs.list_files.list_bytes.Goals as goal

pub loop-file-preserved : goal.loop-file-preserved
loop-file-preserved c =
    let so_far = names_of (take c.loop-file.file-index c.args.files.now) in
    let name = c.file-item.result.name in
    let appended : c.append-in-loop-file-2.new.self ≡ (saved_list so_far ++ name) ++ 10 ∷ [] =
    c.in_ok-append-3.ensures.ok
    ∙ ap (λ bytes. bytes ++ 10 ∷ [])
    (c.in_ok-append-2.ensures.ok ∙ ap (λ bytes. bytes ++ c.as_slice.result.now) c.loop-file.invariant
    ∙ ap (λ name. saved_list so_far ++ name) c.as_slice.ensures.bytes) in
    appended ∙ ap (λ bytes. bytes ++ 10 ∷ []) (append_assoc version_text (list_text so_far) name)
    ∙ append_assoc version_text (list_text so_far ++ name) (10 ∷ [])
    ∙ ap (λ lines. version_text ++ lines) (sym (list_text-push so_far name))
    ∙ ap saved_list (sym (named_so_far c.args.files.now c.loop-file.file-index c.file-item.result c.loop-file-test.true c.file-item.is))
