use Rattle.std.proofs.Common.{◌+◌, ◌++◌, [], ◌∷◌, List, ℕ, Ok, Err, take, drop, sym, ◌∙◌, ap}
use Rattle.std.proofs.lemmas.List.{map-append}
use Rattle.desk_ports.specs.declared.file_sets.SetFile.{SetFile}
use Rattle.desk_ports.specs.FileMap.{names_of}
use Rattle.desk_ports.specs.Disk.{MayLeave}
use Rattle.desk_ports.proofs.Moments.{AddsOnly-then}
use Rattle.guard_files.specs.Recovery.{files_at}
use Rattle.guard_files.specs.Mounted.{placed}
use Rattle.guard_files.proofs.Reading.{files_at-push, files_at-absent}
use Rattle.guard_files.proofs.Rows.{items_so_far, items_split}
use Rattle.guard_files.proofs.set_reading.read_files.Goals as goal

pub returns-in_default-clause-damaged : goal.returns-in_default-clause-damaged
returns-in_default-clause-damaged g c before told =
    ap (files_at (placed c.args.guarded) before.current) (items_split c.args.list.now c.loop-name.name-index c.name-item.result c.loop-name-test.true c.name-item.is)
    ∙ files_at-absent (placed c.args.guarded) before.current (take c.loop-name.name-index c.args.list.now) c.loop-name.files.items c.name-item.result
    (drop (c.loop-name.name-index + 1) c.args.list.now) (c.loop-name.invariant.read before told)
    (sym (c.in-Ok.ensures.content before (c.loop-name.invariant.kept before told)) ∙ c.in_default.is)
    ∙ ap Err (sym c.in-Ok-copy.ensures)

pub loop-name-preserved : goal.loop-name-preserved
loop-name-preserved g c =
    let so_far = items_so_far c.args.list.now c.loop-name.name-index c.name-item.result c.loop-name-test.true c.name-item.is in
    record {
      named =
          ap names_of c.in_default-push_file.ensures
          ∙ map-append (λ (file : SetFile). file.name) c.loop-name.files.items (record { name = c.in-Ok-copy.copy; bytes = c.in-Some.bytes } ∷ [])
          ∙ ap (λ (names : List (List ℕ)). names ++ c.in-Ok-copy.copy ∷ []) c.loop-name.invariant.named
          ∙ ap (λ name. take c.loop-name.name-index c.args.list.now ++ name ∷ []) c.in-Ok-copy.ensures
          ∙ sym so_far;
      read = λ before told.
          ap (files_at (placed c.args.guarded) before.current) so_far
          ∙ files_at-push (placed c.args.guarded) before.current (take c.loop-name.name-index c.args.list.now) c.loop-name.files.items c.name-item.result c.in-Some.bytes
          (c.loop-name.invariant.read before told)
          (sym (c.in-Ok.ensures.content before (c.loop-name.invariant.kept before told)) ∙ c.in-Some.is)
          ∙ ap (λ name. Ok (c.loop-name.files.items ++ record { name = name; bytes = c.in-Some.bytes } ∷ [])) (sym c.in-Ok-copy.ensures)
          ∙ ap Ok (sym c.in_default-push_file.ensures);
      kept = λ before told. c.read_placed.ensures.kept before (c.loop-name.invariant.kept before told);
      moments = λ before told.
          AddsOnly-then g.D.Disk.moment g.D.Disk.left_since c.args.disk.now c.loop-name.disk c.read_placed.new.disk (MayLeave before)
          (c.loop-name.invariant.moments before told) (c.read_placed.ensures.moments before (c.loop-name.invariant.kept before told));
      count = c.in-Ok.ensures.count ∙ c.loop-name.invariant.count;
    }
