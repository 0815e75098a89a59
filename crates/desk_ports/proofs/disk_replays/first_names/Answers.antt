use Rattle.std.proofs.Common.{true, if◌then◌else◌, is_some, take, [], ◌∷◌, ◌++◌, ap, sym, ◌∙◌}
use Rattle.std.specs.Str.{bytes_eq}
use Rattle.std.proofs.lemmas.List.{take_more}
use Rattle.desk_ports.specs.FileMap.{map_of}
use Rattle.desk_ports.proofs.Holding.{is_some-map_of-push}
use Rattle.desk_ports.proofs.disk_replays.first_names.Goals as goal

pub loop-file-preserved : goal.loop-file-preserved
loop-file-preserved c = λ name.
    let before = take c.loop-file.file-index c.args.files.now in
    c.in_ok-put_name.ensures name
    ∙ ap (λ was. if bytes_eq c.file-item.result.name name then true else was) (c.loop-file.invariant name)
    ∙ sym (is_some-map_of-push before c.file-item.result name)
    ∙ sym (ap (λ files. is_some (map_of files name)) (take_more c.args.files.now c.loop-file.file-index c.file-item.result c.loop-file-test.true ∙ ap (λ file. before ++ file ∷ []) (sym c.file-item.is)))
