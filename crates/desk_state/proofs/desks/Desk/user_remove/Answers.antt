use Rattle.std.proofs.Common.{◌≡◌, ◌<◌, ◌^◌, List, [], ◌∷◌, None, true, refl, sym, ap, ◌∙◌, subst, arith}
use Rattle.std.specs.List.{AllByRecursion, flat_map}
use Rattle.bucket_store.specs.Change.{with_changes}
use Rattle.bucket_store.specs.Refusal.{named_by, no_bucket}
use Rattle.bucket_store.specs.declared.policy_changes.Change.{Change}
use Rattle.app_registry.specs.Refusal as registry
use Rattle.app_registry.specs.Registry.{RegistryLists, without_user}
use Rattle.app_registry.specs.declared.users.User.{User}
use Rattle.desk_state.specs.Layout.{has_layout, settled}
use Rattle.desk_state.specs.Rules.{Refuses}
use Rattle.desk_state.specs.declared.commands.Command.{Command}
use Rattle.desk_state.specs.declared.commands.Command.TheVariants.{UserRemove}
use Rattle.desk_state.specs.parts.Following.{removal_changes}
use Rattle.desk_state.specs.parts.Stepping.{Settles}
use Rattle.desk_state.proofs.Commanding.{named-user_remove, follows-user_remove}
use Rattle.desk_state.proofs.Deciding.{on_user_remove, refused_by_registry, stepped_by_registry, laid_known, or_nothing}
use Rattle.desk_state.proofs.desks.Desk.user_remove.Goals as goal

wider : (users : List User) → AllByRecursion (λ (user : User). user.uid < 2 ^ 32) users → AllByRecursion (λ (user : User). user.uid < 2 ^ 64) users
wider [] small = tt
wider (user ∷ users) small = (let here = small.0 in omega (arith, here), wider users small.1)

pub returns-in-Err : goal.returns-in-Err
returns-in-Err c =
    let desk = c.args.self.now in
    let command : Command = UserRemove c.args.uid in
    let refused =
    subst (λ (lists : RegistryLists). registry.Refuses c.in-Err.refusal (registry.user_remove_fault lists c.args.uid)) c.registry.ensures.registry
    c.in-Err.ensures.refused in
    subst (Refuses desk command) (sym c.refused_by_registry.ensures)
    (refused_by_registry desk command (on_user_remove desk c.args.uid c.requires) c.in-Err.refusal (subst (λ fault. registry.Refuses c.in-Err.refusal fault) (sym (or_nothing (registry.user_remove_fault desk.registry c.args.uid))) refused))

pub settle-requires : goal.settle-requires
settle-requires c =
    let desk = c.args.self.now in
    let is = c.registry.ensures.desk in
    let has : has_layout desk.database ≡ true = laid_known (has_layout desk.database) c.requires.known in
    let registries : c.in-Ok.registry ≡ without_user desk.registry c.args.uid =
    c.in-Ok.ensures.registry ∙ ap (λ (lists : RegistryLists). without_user lists c.args.uid) c.registry.ensures.registry in
    let fits : c.args.uid < 2 ^ 64 = omega arith in
    let users : c.users.result.now ≡ desk.registry.users =
    c.users.ensures.users ∙ ap (λ (lists : RegistryLists). lists.users) c.registry-2.ensures.registry in
    let small = wider desk.registry.users (subst (λ list. AllByRecursion (λ (user : User). user.uid < 2 ^ 32) list) users c.numbers_fit.ensures) in
    let installs : c.installs-before.result.now ≡ desk.registry.installs =
    c.installs-before.ensures.installs ∙ ap (λ (lists : RegistryLists). lists.installs) c.registry-3.ensures.registry in
    let changes : c.deref.result.now ≡ removal_changes c.args.uid desk.registry.installs = c.deref.ensures.value ∙ c.in-Ok-user_remove_changes.ensures ∙ ap (removal_changes c.args.uid) installs in
    record {
      laid = has;
      named = subst (λ list. no_bucket (flat_map named_by list) desk.database ≡ None) (sym changes) (named-user_remove desk is has c.args.uid);
      follows =
          subst (λ (list : List Change). with_changes list desk.database ≡ settled c.in-Ok.registry desk.database) (sym changes)
          (subst (λ (lists : RegistryLists). with_changes (removal_changes c.args.uid desk.registry.installs) desk.database ≡ settled lists desk.database) (sym registries) (follows-user_remove desk is has c.args.uid fits small));
    }

pub returns : goal.returns
returns c =
    let desk = c.args.self.now in
    let command : Command = UserRemove c.args.uid in
    let registries : c.in-Ok.registry ≡ without_user desk.registry c.args.uid =
    c.in-Ok.ensures.registry ∙ ap (λ (lists : RegistryLists). without_user lists c.args.uid) c.registry.ensures.registry in
    let accepted : registry.user_remove_fault desk.registry c.args.uid ≡ None =
    subst (λ (lists : RegistryLists). registry.user_remove_fault lists c.args.uid ≡ None) c.registry.ensures.registry c.in-Ok.ensures.accepted in
    stepped_by_registry desk command (on_user_remove desk c.args.uid c.requires) (or_nothing (registry.user_remove_fault desk.registry c.args.uid) ∙ accepted) refl refl c.settle.result
    (subst (λ (lists : RegistryLists). Settles desk lists c.settle.result) registries c.settle.ensures)
