use Rattle.std.proofs.Common.{◌≡◌, List, None, true, refl, sym, ap, ◌∙◌, subst}
use Rattle.std.specs.List.{AllByRecursion, flat_map}
use Rattle.bucket_store.specs.Change.{with_changes}
use Rattle.bucket_store.specs.Refusal.{named_by, no_bucket}
use Rattle.bucket_store.specs.declared.policy_changes.Change.{Change}
use Rattle.app_registry.specs.Ident.{ident_fault}
use Rattle.app_registry.specs.Refusal as registry
use Rattle.app_registry.specs.Registry.{RegistryLists, with_install}
use Rattle.app_registry.specs.declared.installs.Install.{Install}
use Rattle.desk_state.specs.Layout.{has_layout, settled}
use Rattle.desk_state.specs.Rules.{Refuses}
use Rattle.desk_state.specs.declared.commands.Command.{Command}
use Rattle.desk_state.specs.declared.commands.Command.TheVariants.{Install as InstallCommand}
use Rattle.desk_state.specs.parts.Following.{package_changes}
use Rattle.desk_state.specs.parts.Stepping.{Settles}
use Rattle.desk_state.proofs.Commanding.{named-install, follows-install}
use Rattle.desk_state.proofs.Deciding.{on_install, refused_by_registry, stepped_by_registry, laid_known}
use Rattle.desk_state.proofs.desks.Desk.install.Goals as goal

pub returns-in-Err : goal.returns-in-Err
returns-in-Err c =
    let desk = c.args.self.now in
    let command : Command = InstallCommand c.args.install.now in
    let refused =
    subst (λ (lists : RegistryLists). registry.Refuses c.in-Err.refusal (registry.install_fault lists c.args.install.now)) c.registry.ensures.registry
    c.in-Err.ensures.refused in
    subst (Refuses desk command) (sym c.refused_by_registry.ensures)
    (refused_by_registry desk command (on_install desk c.args.install.now c.requires) c.in-Err.refusal refused)

pub settle-requires : goal.settle-requires
settle-requires c =
    let desk = c.args.self.now in
    let is = c.registry.ensures.desk in
    let has : has_layout desk.database ≡ true = laid_known (has_layout desk.database) c.requires.known in
    let registries : c.in-Ok.registry ≡ with_install desk.registry c.args.install.now =
    c.in-Ok.ensures.registry ∙ ap (λ (lists : RegistryLists). with_install lists c.args.install.now) c.registry.ensures.registry in
    let before : c.registry-before.result.now ≡ desk.registry = c.registry-before.ensures.registry in
    let installs : c.installs.result.now ≡ desk.registry.installs = c.installs.ensures.installs ∙ ap (λ (lists : RegistryLists). lists.installs) before in
    let idents : AllByRecursion (λ (install : Install). ident_fault install.package ≡ None) desk.registry.installs =
    subst (AllByRecursion (λ (install : Install). ident_fault install.package ≡ None)) installs c.idents_fit.ensures in
    let sound : ident_fault c.args.install.now.package ≡ None = c.as_slice.ensures.ident in
    let changes : c.deref.result.now ≡ package_changes c.args.install.now.package desk.registry.installs (with_install desk.registry c.args.install.now).installs =
    c.deref.ensures.value ∙ c.in-Ok-package_changes.ensures ∙ (λ i. package_changes c.args.install.now.package (before i).installs (registries i).installs) in
    record {
      laid = has;
      named = subst (λ list. no_bucket (flat_map named_by list) desk.database ≡ None) (sym changes) (named-install desk is has c.args.install.now);
      follows =
          subst (λ (list : List Change). with_changes list desk.database ≡ settled c.in-Ok.registry desk.database) (sym changes)
          (subst (λ (lists : RegistryLists). with_changes (package_changes c.args.install.now.package desk.registry.installs (with_install desk.registry c.args.install.now).installs) desk.database ≡ settled lists desk.database) (sym registries) (follows-install desk is has c.args.install.now sound idents));
    }

pub returns : goal.returns
returns c =
    let desk = c.args.self.now in
    let command : Command = InstallCommand c.args.install.now in
    let registries : c.in-Ok.registry ≡ with_install desk.registry c.args.install.now =
    c.in-Ok.ensures.registry ∙ ap (λ (lists : RegistryLists). with_install lists c.args.install.now) c.registry.ensures.registry in
    let accepted : registry.install_fault desk.registry c.args.install.now ≡ None =
    subst (λ (lists : RegistryLists). registry.install_fault lists c.args.install.now ≡ None) c.registry.ensures.registry c.in-Ok.ensures.accepted in
    stepped_by_registry desk command (on_install desk c.args.install.now c.requires) accepted refl refl c.settle.result
    (subst (λ (lists : RegistryLists). Settles desk lists c.settle.result) registries c.settle.ensures)
