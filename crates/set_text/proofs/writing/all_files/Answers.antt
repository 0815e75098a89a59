use Rattle.std.proofs.Common.{◌≡◌, ◌++◌, ◌∷◌, [], List, rules, ◌∙◌}
use Rattle.desk_ports.specs.declared.file_sets.SetFile.{SetFile}
use Rattle.rule_templates.specs.Template.{template_text}
use Rattle.set_text.specs.Buckets.{buckets_text}
use Rattle.set_text.specs.FileNames as name
use Rattle.set_text.specs.Files.{file, bucket_files, load_files}
use Rattle.set_text.specs.Registry.{apps_text, users_text}
use Rattle.set_text.specs.Stamp.{stamp_text}
use Rattle.set_text.proofs.Placing.{four-parts}
use Rattle.set_text.proofs.writing.all_files.Goals as goal

pub returns-clause-files : goal.returns-clause-files
returns-clause-files c =
    let desk = c.args.desk.now in
    let lists : List SetFile = file name.apps (apps_text desk.registry.installs) ∷ file name.buckets
    (buckets_text desk.database.buckets) ∷ [] in
    let last : List SetFile = file name.stamp (stamp_text desk.commit)
    ∷ file name.template (template_text desk.template) ∷ file name.users (users_text desk.registry.users) ∷ [] in
    let made : c.push_last.new.files.items ≡ ((bucket_files desk ++ lists) ++ load_files desk) ++ last = search rules in
    made ∙ four-parts (bucket_files desk) lists (load_files desk) last

pub returns-clause-spelt : goal.returns-clause-spelt
returns-clause-spelt c = record {
  buckets = c.in_ok-push_lists.ensures.headings;
  policies = c.in_ok-push_bucket_files.ensures.spelt;
  users = c.in_ok-push_last.ensures.users;
  installs = c.in_ok-push_lists.ensures.installs;
}
