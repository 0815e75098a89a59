use Rattle.std.proofs.Common.{◌≡◌, ◌<◌, ◌^◌, List, [], ◌∷◌, None, true, refl, sym, ap, ◌∙◌, subst, arith}
use Rattle.std.specs.List.{flat_map}
use Rattle.bucket_store.specs.Change.{with_changes}
use Rattle.bucket_store.specs.Refusal.{named_by, no_bucket}
use Rattle.bucket_store.specs.declared.policy_changes.Change.{Change}
use Rattle.app_registry.specs.Refusal as registry
use Rattle.app_registry.specs.Registry.{RegistryLists, with_user}
use Rattle.desk_state.specs.Layout.{has_layout, settled}
use Rattle.desk_state.specs.Rules.{Refuses}
use Rattle.desk_state.specs.declared.commands.Command.{Command}
use Rattle.desk_state.specs.declared.commands.Command.TheVariants.{UserSet}
use Rattle.desk_state.specs.parts.Following.{set_user}
use Rattle.desk_state.specs.parts.Stepping.{Settles}
use Rattle.desk_state.proofs.Commanding.{named-user_set, follows-user_set}
use Rattle.desk_state.proofs.Deciding.{on_user_set, refused_by_registry, stepped_by_registry, laid_known}
use Rattle.desk_state.proofs.desks.Desk.user_set.Goals as goal

pub returns-in-Err : goal.returns-in-Err
returns-in-Err c =
    let desk = c.args.self.now in
    let command : Command = UserSet c.args.uid c.args.kind in
    let refused =
    subst (λ (lists : RegistryLists). registry.Refuses c.in-Err.refusal (registry.user_set_fault lists c.args.uid c.args.kind)) c.registry.ensures.registry
    c.in-Err.ensures.refused in
    subst (Refuses desk command) (sym c.refused_by_registry.ensures)
    (refused_by_registry desk command (on_user_set desk c.args.uid c.args.kind c.requires) c.in-Err.refusal refused)

pub settle-requires : goal.settle-requires
settle-requires c =
    let desk = c.args.self.now in
    let is = c.registry.ensures.desk in
    let has : has_layout desk.database ≡ true = laid_known (has_layout desk.database) c.requires.known in
    let registries : c.in-Ok.registry ≡ with_user desk.registry c.args.uid c.args.kind =
    c.in-Ok.ensures.registry ∙ ap (λ (lists : RegistryLists). with_user lists c.args.uid c.args.kind) c.registry.ensures.registry in
    let fits : c.args.uid < 2 ^ 64 = omega arith in
    let changes : c.deref.result.now ≡ set_user c.args.uid c.args.kind ∷ [] = c.deref.ensures.value ∙ c.in-Ok-user_set_changes.ensures in
    record {
      laid = has;
      named = subst (λ list. no_bucket (flat_map named_by list) desk.database ≡ None) (sym changes) (named-user_set desk is has c.args.uid c.args.kind);
      follows =
          subst (λ (list : List Change). with_changes list desk.database ≡ settled c.in-Ok.registry desk.database) (sym changes)
          (subst (λ (lists : RegistryLists). with_changes (set_user c.args.uid c.args.kind ∷ []) desk.database ≡ settled lists desk.database) (sym registries) (follows-user_set desk is has c.args.uid c.args.kind fits));
    }

pub returns : goal.returns
returns c =
    let desk = c.args.self.now in
    let command : Command = UserSet c.args.uid c.args.kind in
    let registries : c.in-Ok.registry ≡ with_user desk.registry c.args.uid c.args.kind =
    c.in-Ok.ensures.registry ∙ ap (λ (lists : RegistryLists). with_user lists c.args.uid c.args.kind) c.registry.ensures.registry in
    let accepted : registry.user_set_fault desk.registry c.args.uid c.args.kind ≡ None =
    subst (λ (lists : RegistryLists). registry.user_set_fault lists c.args.uid c.args.kind ≡ None) c.registry.ensures.registry c.in-Ok.ensures.accepted in
    stepped_by_registry desk command (on_user_set desk c.args.uid c.args.kind c.requires) accepted refl refl c.settle.result
    (subst (λ (lists : RegistryLists). Settles desk lists c.settle.result) registries c.settle.ensures)
