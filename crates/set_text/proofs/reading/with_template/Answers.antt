use Rattle.std.proofs.Common.{◌≡◌, map, None, subst, sym, ap, ◌∙◌}
use Rattle.bucket_store.specs.Database.{Database}
use Rattle.app_registry.specs.Registry.{packages}
use Rattle.desk_state.specs.IsDesk.{IsDesk}
use Rattle.set_text.specs.FileNames.{load_file, is_load_file}
use Rattle.set_text.specs.Reading.{odd_file}
use Rattle.set_text.specs.parts.Stages.{desk_of}
use Rattle.set_text.proofs.round.Desks.{read-is-desk}
use Rattle.set_text.proofs.ReadingKept.{kept-of}
use Rattle.set_text.proofs.ReadingStages.{joint-cycle, to-desk}
use Rattle.set_text.proofs.reading.with_template.Goals as goal

pub of-requires : goal.of-requires
of-requires c =
    let parts = c.args.parts in
    let desk = desk_of parts.commit parts.buckets.items parts.registry c.in_ok-template.template in
    kept-of parts.headings.items parts.buckets.items c.requires.sound
    (joint-cycle c.args.files.now desk c.in_ok-test_together.ensures)

pub of-requires-2 : goal.of-requires-2
of-requires-2 c =
    let files = c.args.files.now in
    let parts = c.args.parts in
    let template = c.in_ok-template.template in
    let desk = desk_of parts.commit parts.buckets.items parts.registry template in
    let list = c.deref.ensures.value ∙ c.in-Ok.ensures ∙ ap packages c.installs.ensures.installs in
    let none : odd_file is_load_file (map load_file (packages parts.registry.installs)) files ≡ None =
    sym (ap (λ names. odd_file is_load_file (map load_file names) files) list) ∙ c.in_ok-test_load_files.ensures in
    let read = c.requires.read
    ∙ to-desk files parts.commit parts.buckets.items parts.registry template none c.in_ok-template.ensures
    c.in_ok-test_together.ensures in
    subst (λ (database : Database). IsDesk (record {
      commit = parts.commit;
      database = database;
      registry = parts.registry;
      template = template;
    }))
    (sym c.of.ensures) (read-is-desk files desk read)
