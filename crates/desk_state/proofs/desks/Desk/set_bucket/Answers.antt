use Rattle.std.proofs.Common.{◌≡◌, ℕ, List, None, refl, sym, ap, ◌∙◌, subst}
use Rattle.bucket_store.specs.Database.{Database}
use Rattle.bucket_store.specs.Change.{with_bucket}
use Rattle.bucket_store.specs.Refusal as store
use Rattle.desk_state.specs.DeskState.{DeskState}
use Rattle.desk_state.specs.Rules.{Refuses}
use Rattle.desk_state.specs.parts.Stepping.{IsArranged, IsAllowed, moved}
use Rattle.desk_state.specs.declared.commands.Command.{Command}
use Rattle.desk_state.specs.declared.commands.Command.TheVariants.{SetBucket}
use Rattle.desk_state.proofs.Deciding.{IsOnDatabase, refused_by_store, stepped_by_store}
use Rattle.desk_state.proofs.Keeping.{keeps-set_bucket}
use Rattle.cynara_keys.specs.PolicyResult.{Ruling}
use Rattle.desk_state.proofs.desks.Desk.set_bucket.Goals as goal

known : (desk : DeskState) (name : List ℕ) (fallback : Ruling) → IsAllowed desk (SetBucket name fallback) → IsOnDatabase desk (SetBucket name fallback)
known desk name fallback allowed = record { allowed = allowed; rule = refl; count = refl }

pub returns-in-Err : goal.returns-in-Err
returns-in-Err c =
    let desk = c.args.self.now in
    let command : Command = SetBucket c.args.name.now c.args.fallback.now in
    let refused =
    subst (λ (database : Database). store.Refuses database (store.set_bucket c.args.name.now c.args.fallback.now database) c.in-Err.refusal) c.database.ensures.database
    c.in-Err.ensures.refused in
    subst (Refuses desk command) (sym c.refused_by_store.ensures)
    (refused_by_store desk command (known desk c.args.name.now c.args.fallback.now c.requires) c.in-Err.refusal refused)

pub on_database-requires : goal.on_database-requires
on_database-requires c =
    let desk = c.args.self.now in
    let next : c.in-Ok.database ≡ with_bucket (record { name = c.args.name.now; fallback = c.args.fallback.now }) desk.database =
    c.in-Ok.ensures.next ∙ ap (with_bucket (record { name = c.args.name.now; fallback = c.args.fallback.now })) c.database.ensures.database in
    subst (λ (database : Database). IsArranged (moved desk database desk.registry desk.template)) (sym next)
    (keeps-set_bucket desk (record { name = c.args.name.now; fallback = c.args.fallback.now }) c.database.ensures.desk c.requires.unreserved)

pub returns : goal.returns
returns c =
    let desk = c.args.self.now in
    let command : Command = SetBucket c.args.name.now c.args.fallback.now in
    let next : c.in-Ok.database ≡ with_bucket (record { name = c.args.name.now; fallback = c.args.fallback.now }) desk.database =
    c.in-Ok.ensures.next ∙ ap (with_bucket (record { name = c.args.name.now; fallback = c.args.fallback.now })) c.database.ensures.database in
    let accepted =
    subst (λ (database : Database). store.fault database (store.set_bucket c.args.name.now c.args.fallback.now database) ≡ None) c.database.ensures.database
    c.in-Ok.ensures.accepted in
    stepped_by_store desk command (known desk c.args.name.now c.args.fallback.now c.requires) accepted
    (moved desk c.in-Ok.database desk.registry desk.template) 0
    (ap (λ (database : Database). moved desk database desk.registry desk.template) next) refl c.on_database.result c.on_database.ensures
