use Rattle.std.proofs.Common.{◌≡◌, ◌++◌, ◌∷◌, [], rules, ◌∙◌}
use Rattle.rule_templates.specs.Template.{template_text}
use Rattle.set_text.specs.FileNames as name
use Rattle.set_text.specs.Files.{file}
use Rattle.set_text.specs.Registry.{users_text}
use Rattle.set_text.specs.Stamp.{stamp_text}
use Rattle.set_text.proofs.Placing.{three-more}
use Rattle.set_text.proofs.writing.push_last.Goals as goal

pub returns-clause-files : goal.returns-clause-files
returns-clause-files c =
    let desk = c.args.desk.now in
    let stamp = file name.stamp (stamp_text desk.commit) in
    let template = file name.template (template_text desk.template) in
    let users = file name.users (users_text desk.registry.users) in
    let made : c.push-3.new.files.items ≡
    ((c.args.files.now.items ++ stamp ∷ []) ++ template ∷ []) ++ users ∷ [] = search rules in
    made ∙ three-more c.args.files.now.items stamp template users
