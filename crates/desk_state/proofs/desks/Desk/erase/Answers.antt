use Rattle.std.proofs.Common.{◌≡◌, ℕ, List, length, None, refl, sym, ap, ◌∙◌, subst}
use Rattle.bucket_store.specs.Database.{Database}
use Rattle.bucket_store.specs.Change.{erased, listed}
use Rattle.bucket_store.specs.Refusal as store
use Rattle.desk_state.specs.DeskState.{DeskState}
use Rattle.desk_state.specs.Rules.{Refuses}
use Rattle.desk_state.specs.parts.Stepping.{IsArranged, IsAllowed, moved}
use Rattle.desk_state.specs.declared.commands.Command.{Command}
use Rattle.desk_state.specs.declared.commands.Command.TheVariants.{Erase}
use Rattle.desk_state.proofs.Deciding.{IsOnDatabase, refused_by_store, stepped_by_store}
use Rattle.desk_state.proofs.Keeping.{keeps-erase}
use Rattle.cynara_keys.specs.declared.keys.Filter.{Filter}
use Rattle.desk_state.proofs.desks.Desk.erase.Goals as goal

known : (desk : DeskState) (name : List ℕ) (admitted : Filter) → IsAllowed desk (Erase name admitted) → IsOnDatabase desk (Erase name admitted)
known desk name admitted allowed = record { allowed = allowed; rule = refl; count = refl }

pub returns-in-Err : goal.returns-in-Err
returns-in-Err c =
    let desk = c.args.self.now in
    let command : Command = Erase c.args.name.now c.args.filter.now in
    let refused =
    subst (λ (database : Database). store.Refuses database (store.erase c.args.name.now c.args.filter.now database) c.in-Err.refusal) c.database.ensures.database
    c.in-Err.ensures.refused in
    subst (Refuses desk command) (sym c.refused_by_store.ensures)
    (refused_by_store desk command (known desk c.args.name.now c.args.filter.now c.requires) c.in-Err.refusal refused)

pub on_database-requires : goal.on_database-requires
on_database-requires c =
    let desk = c.args.self.now in
    let next : c.in-Ok.erased.database ≡ erased c.args.name.now c.args.filter.now desk.database =
    c.in-Ok.ensures.next ∙ ap (erased c.args.name.now c.args.filter.now) c.database.ensures.database in
    subst (λ (database : Database). IsArranged (moved desk database desk.registry desk.template)) (sym next)
    (keeps-erase desk c.args.name.now c.args.filter.now c.database.ensures.desk c.requires.unreserved)

pub returns : goal.returns
returns c =
    let desk = c.args.self.now in
    let command : Command = Erase c.args.name.now c.args.filter.now in
    let next : c.in-Ok.erased.database ≡ erased c.args.name.now c.args.filter.now desk.database =
    c.in-Ok.ensures.next ∙ ap (erased c.args.name.now c.args.filter.now) c.database.ensures.database in
    let accepted =
    subst (λ (database : Database). store.fault database (store.erase c.args.name.now c.args.filter.now database) ≡ None) c.database.ensures.database
    c.in-Ok.ensures.accepted in
    let counted : c.in-Ok.erased.count ≡ length (listed c.args.name.now c.args.filter.now desk.database) =
    c.in-Ok.ensures.count ∙ ap (λ (database : Database). length (listed c.args.name.now c.args.filter.now database)) c.database.ensures.database in
    stepped_by_store desk command (known desk c.args.name.now c.args.filter.now c.requires) accepted
    (moved desk c.in-Ok.erased.database desk.registry desk.template) c.in-Ok.erased.count
    (ap (λ (database : Database). moved desk database desk.registry desk.template) next) counted c.on_database.result c.on_database.ensures
