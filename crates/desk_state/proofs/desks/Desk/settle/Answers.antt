use Rattle.std.proofs.Common.{◌≡◌, sym, ap, ◌∙◌, subst}
use Rattle.bucket_store.specs.Change.{with_changes}
use Rattle.bucket_store.specs.Database.{Database}
use Rattle.bucket_store.specs.Refusal as store
use Rattle.desk_state.specs.Layout.{settled}
use Rattle.desk_state.specs.declared.refusals.Refusal.{Refusal}
use Rattle.desk_state.specs.parts.Stepping.{Settles}
use Rattle.desk_state.proofs.Deciding.{unsettled}
use Rattle.desk_state.proofs.Commanding.{arranged}
use Rattle.std.proofs.Common.{Err}
use Rattle.desk_state.proofs.desks.Desk.settle.Goals as goal

pub returns-in-Err : goal.returns-in-Err
returns-in-Err c =
    let desk = c.args.self.now in
    let refused =
    subst (λ (database : Database). store.Refuses database (store.set_policies c.args.changes.now database) c.in-Err.refusal)
    c.database.ensures.database c.in-Err.ensures.refused in
    subst (λ (refusal : Refusal). Settles desk c.args.registry (Err refusal)) (sym c.refused_by_store.ensures)
    (unsettled desk c.args.registry c.args.changes.now c.requires.named c.requires.follows c.in-Err.refusal refused)

pub step-requires-clause-arranged : goal.step-requires-clause-arranged
step-requires-clause-arranged c =
    let desk = c.args.self.now in
    let is : c.in-Ok.database ≡ settled c.args.registry desk.database =
    c.in-Ok.ensures.next ∙ ap (with_changes c.args.changes.now) c.database.ensures.database ∙ c.requires.follows in
    arranged desk c.in-Ok.database c.args.registry c.in-Ok-copy.template c.database.ensures.desk c.requires.laid is
    c.buckets.ensures.well_formed
