use Rattle.std.proofs.Common.{◌≡◌, ◌++◌, ◌∷◌, [], rules, ◌∙◌}
use Rattle.set_text.specs.Buckets.{buckets_text}
use Rattle.set_text.specs.FileNames as name
use Rattle.set_text.specs.Files.{file}
use Rattle.set_text.specs.Registry.{apps_text}
use Rattle.set_text.proofs.Placing.{two-more, headings-spelt}
use Rattle.set_text.proofs.writing.push_lists.Goals as goal

pub returns-clause-files : goal.returns-clause-files
returns-clause-files c =
    let desk = c.args.desk.now in
    let apps = file name.apps (apps_text desk.registry.installs) in
    let buckets = file name.buckets (buckets_text desk.database.buckets) in
    let made : c.push-2.new.files.items ≡ (c.args.files.now.items ++ apps ∷ []) ++ buckets ∷ [] = search rules in
    made ∙ two-more c.args.files.now.items apps buckets

pub returns-clause-headings : goal.returns-clause-headings
returns-clause-headings c =
    headings-spelt c.args.desk.now c.buckets.result.now (search rules) c.in_ok-buckets.ensures.spelt
