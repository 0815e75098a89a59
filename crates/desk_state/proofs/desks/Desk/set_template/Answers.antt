use Rattle.std.proofs.Common.{◌≡◌, refl, ◌∙◌}
use Rattle.desk_state.specs.declared.commands.Command.{Command}
use Rattle.desk_state.specs.declared.commands.Command.TheVariants.{SetTemplate}
use Rattle.desk_state.specs.parts.Stepping.{moved}
use Rattle.desk_state.proofs.Deciding.{stepped_by_store, quiet}
use Rattle.desk_state.proofs.desks.Desk.set_template.Goals as goal

pub returns : goal.returns
returns c =
    let desk = c.args.self.now in
    let command : Command = SetTemplate c.args.template.now in
    let database : c.in-Ok-copy.database ≡ desk.database = c.in-Ok-copy.ensures ∙ c.database.ensures.database in
    let registry : c.in-Ok-copy-2.registry ≡ desk.registry = c.in-Ok-copy-2.ensures ∙ c.registry.ensures.registry in
    stepped_by_store desk command (record { allowed = c.requires; rule = refl; count = refl })
    (quiet desk.database c.database.ensures.desk.database.sound)
    (moved desk c.in-Ok-copy.database c.in-Ok-copy-2.registry c.in-Ok.template) 0
    (λ i. moved desk (database i) (registry i) (c.in-Ok.ensures i)) refl c.step.result c.step.ensures
