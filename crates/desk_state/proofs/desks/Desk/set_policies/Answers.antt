use Rattle.std.proofs.Common.{◌≡◌, List, None, refl, sym, ap, ◌∙◌, subst}
use Rattle.bucket_store.specs.Database.{Database}
use Rattle.bucket_store.specs.Change.{with_changes}
use Rattle.bucket_store.specs.Refusal as store
use Rattle.desk_state.specs.DeskState.{DeskState}
use Rattle.desk_state.specs.Rules.{Refuses}
use Rattle.desk_state.specs.parts.Stepping.{IsArranged, IsAllowed, moved}
use Rattle.desk_state.specs.declared.commands.Command.{Command}
use Rattle.desk_state.specs.declared.commands.Command.TheVariants.{SetPolicies}
use Rattle.desk_state.proofs.Deciding.{IsOnDatabase, refused_by_store, stepped_by_store}
use Rattle.desk_state.proofs.Keeping.{keeps-set_policies}
use Rattle.bucket_store.specs.WellFormed.{IsWellFormed}
use Rattle.bucket_store.specs.declared.policy_changes.Change.{Change}
use Rattle.desk_state.proofs.desks.Desk.set_policies.Goals as goal

known : (desk : DeskState) (changes : List Change) → IsAllowed desk (SetPolicies changes) → IsOnDatabase desk (SetPolicies changes)
known desk changes allowed = record { allowed = allowed; rule = refl; count = refl }

pub returns-in-Err : goal.returns-in-Err
returns-in-Err c =
    let desk = c.args.self.now in
    let command : Command = SetPolicies c.args.changes.now in
    let refused =
    subst (λ (database : Database). store.Refuses database (store.set_policies c.args.changes.now database) c.in-Err.refusal) c.database.ensures.database
    (subst (λ (changes : List Change). store.Refuses c.database.result.now (store.set_policies changes c.database.result.now) c.in-Err.refusal)
    c.as_slice.ensures c.in-Err.ensures.refused) in
    subst (Refuses desk command) (sym c.refused_by_store.ensures)
    (refused_by_store desk command (known desk c.args.changes.now c.requires) c.in-Err.refusal refused)

pub on_database-requires : goal.on_database-requires
on_database-requires c =
    let desk = c.args.self.now in
    let next : c.in-Ok.database ≡ with_changes c.args.changes.now desk.database =
    c.in-Ok.ensures.next ∙ (λ i. with_changes (c.as_slice.ensures i) (c.database.ensures.database i)) in
    subst (λ (database : Database). IsArranged (moved desk database desk.registry desk.template)) (sym next)
    (keeps-set_policies desk c.args.changes.now c.database.ensures.desk c.requires.unreserved
    (subst IsWellFormed next c.buckets.ensures.well_formed))

pub returns : goal.returns
returns c =
    let desk = c.args.self.now in
    let command : Command = SetPolicies c.args.changes.now in
    let next : c.in-Ok.database ≡ with_changes c.args.changes.now desk.database =
    c.in-Ok.ensures.next ∙ (λ i. with_changes (c.as_slice.ensures i) (c.database.ensures.database i)) in
    let accepted =
    subst (λ (database : Database). store.fault database (store.set_policies c.args.changes.now database) ≡ None) c.database.ensures.database
    (subst (λ (changes : List Change). store.fault c.database.result.now (store.set_policies changes c.database.result.now) ≡ None)
    c.as_slice.ensures c.in-Ok.ensures.accepted) in
    stepped_by_store desk command (known desk c.args.changes.now c.requires) accepted
    (moved desk c.in-Ok.database desk.registry desk.template) 0
    (ap (λ (database : Database). moved desk database desk.registry desk.template) next) refl c.on_database.result c.on_database.ensures
