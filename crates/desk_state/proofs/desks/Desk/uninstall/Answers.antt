use Rattle.std.proofs.Common.{◌≡◌, List, None, true, find, refl, sym, ap, ◌∙◌, subst}
use Rattle.std.specs.List.{AllByRecursion, flat_map, list_any}
use Rattle.bucket_store.specs.Change.{with_changes}
use Rattle.bucket_store.specs.Refusal.{named_by, no_bucket}
use Rattle.bucket_store.specs.declared.policy_changes.Change.{Change}
use Rattle.app_registry.specs.Ident.{ident_fault}
use Rattle.app_registry.specs.Refusal as registry
use Rattle.app_registry.specs.Install.{is_of_app, is_install_of}
use Rattle.app_registry.specs.Registry.{RegistryLists, without_install}
use Rattle.app_registry.specs.declared.installs.Install.{Install}
use Rattle.desk_state.specs.Layout.{has_layout, settled}
use Rattle.desk_state.specs.Rules.{Refuses}
use Rattle.desk_state.specs.declared.commands.Command.{Command}
use Rattle.desk_state.specs.declared.commands.Command.TheVariants.{Uninstall}
use Rattle.desk_state.specs.parts.Following.{app_changes}
use Rattle.desk_state.specs.parts.Stepping.{Settles}
use Rattle.desk_state.proofs.Commanding.{named-uninstall, follows-uninstall}
use Rattle.desk_state.proofs.Deciding.{on_uninstall, refused_by_registry, stepped_by_registry, laid_known, or_nothing, was_installed}
use Rattle.desk_state.proofs.desks.Desk.uninstall.Goals as goal

pub returns-in-Err : goal.returns-in-Err
returns-in-Err c =
    let desk = c.args.self.now in
    let command : Command = Uninstall c.args.app.now c.args.scope in
    let refused =
    subst (λ (lists : RegistryLists). registry.Refuses c.in-Err.refusal (registry.uninstall_fault lists c.args.app.now c.args.scope)) c.registry.ensures.registry
    c.in-Err.ensures.refused in
    subst (Refuses desk command) (sym c.refused_by_registry.ensures)
    (refused_by_registry desk command (on_uninstall desk c.args.app.now c.args.scope c.requires) c.in-Err.refusal (subst (λ fault. registry.Refuses c.in-Err.refusal fault) (sym (or_nothing (registry.uninstall_fault desk.registry c.args.app.now c.args.scope))) refused))

pub settle-requires : goal.settle-requires
settle-requires c =
    let desk = c.args.self.now in
    let is = c.registry.ensures.desk in
    let has : has_layout desk.database ≡ true = laid_known (has_layout desk.database) c.requires.known in
    let registries : c.in-Ok.registry ≡ without_install desk.registry c.args.app.now c.args.scope =
    c.in-Ok.ensures.registry ∙ ap (λ (lists : RegistryLists). without_install lists c.args.app.now c.args.scope) c.registry.ensures.registry in
    let before : c.registry-3.result.now ≡ desk.registry = c.registry-3.ensures.registry in
    let accepted : registry.uninstall_fault desk.registry c.args.app.now c.args.scope ≡ None =
    subst (λ (lists : RegistryLists). registry.uninstall_fault lists c.args.app.now c.args.scope ≡ None) c.registry.ensures.registry c.in-Ok.ensures.accepted in
    let installs : c.installs.result.now ≡ desk.registry.installs =
    c.installs.ensures.installs ∙ ap (λ (lists : RegistryLists). lists.installs) c.registry-2.ensures.registry in
    let idents : AllByRecursion (λ (install : Install). ident_fault install.package ≡ None) desk.registry.installs =
    subst (AllByRecursion (λ (install : Install). ident_fault install.package ≡ None)) installs c.idents_fit.ensures in
    let installed = was_installed (list_any (is_install_of c.args.app.now c.args.scope) desk.registry.installs) accepted in
    let changes : c.deref.result.now ≡ app_changes (find (is_of_app c.args.app.now) desk.registry.installs) desk.registry.installs (without_install desk.registry c.args.app.now c.args.scope).installs =
    c.deref.ensures.value ∙ c.in-Ok-app_changes.ensures
    ∙ (λ i. app_changes (find (is_of_app c.args.app.now) (before i).installs) (before i).installs (registries i).installs) in
    record {
      laid = has;
      named = subst (λ list. no_bucket (flat_map named_by list) desk.database ≡ None) (sym changes) (named-uninstall desk is has c.args.app.now c.args.scope);
      follows =
          subst (λ (list : List Change). with_changes list desk.database ≡ settled c.in-Ok.registry desk.database) (sym changes)
          (subst (λ (lists : RegistryLists). with_changes (app_changes (find (is_of_app c.args.app.now) desk.registry.installs) desk.registry.installs (without_install desk.registry c.args.app.now c.args.scope).installs) desk.database ≡ settled lists desk.database) (sym registries) (follows-uninstall desk is has c.args.app.now c.args.scope idents installed));
    }

pub returns : goal.returns
returns c =
    let desk = c.args.self.now in
    let command : Command = Uninstall c.args.app.now c.args.scope in
    let registries : c.in-Ok.registry ≡ without_install desk.registry c.args.app.now c.args.scope =
    c.in-Ok.ensures.registry ∙ ap (λ (lists : RegistryLists). without_install lists c.args.app.now c.args.scope) c.registry.ensures.registry in
    let accepted : registry.uninstall_fault desk.registry c.args.app.now c.args.scope ≡ None =
    subst (λ (lists : RegistryLists). registry.uninstall_fault lists c.args.app.now c.args.scope ≡ None) c.registry.ensures.registry c.in-Ok.ensures.accepted in
    stepped_by_registry desk command (on_uninstall desk c.args.app.now c.args.scope c.requires) (or_nothing (registry.uninstall_fault desk.registry c.args.app.now c.args.scope) ∙ accepted) refl refl c.settle.result
    (subst (λ (lists : RegistryLists). Settles desk lists c.settle.result) registries c.settle.ensures)
