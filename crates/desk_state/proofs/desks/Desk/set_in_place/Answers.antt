use Rattle.std.proofs.Common.{◌≡◌, refl, sym, ap, ◌∙◌, subst}
use Rattle.bucket_store.specs.Change.{with_changes}
use Rattle.desk_state.specs.DeskState.{DeskState}
use Rattle.desk_state.specs.declared.commands.Command.TheVariants.{SetPolicies}
use Rattle.desk_state.specs.parts.Stepping.{IsAllowed}
use Rattle.desk_state.proofs.Becoming.{set-desk}
use Rattle.desk_state.proofs.desks.Desk.set_in_place.Goals as goal

pub invariant_of-self-2 : goal.invariant_of-self-2
invariant_of-self-2 c =
    let kept = c.self.inside in
    let desk : DeskState =
    record { commit = kept.commit; database = kept.database; registry = kept.registry; template = kept.template } in
    let changes = c.args.changes.now in
    let next : c.change_in_place.new.self ≡ with_changes changes kept.database =
    c.if-not-change_in_place.ensures.next refl ∙ ap (λ list. with_changes list kept.database) c.as_slice.ensures in
    set-desk desk changes c.change_in_place.new.self c.self.invariant
    (subst (λ (other : DeskState). IsAllowed other (SetPolicies changes)) (sym c.self.view_is) c.requires) c.if-self.false next
    c.buckets.ensures.well_formed
