use Rattle.std.proofs.Common.{◌≡◌, List, None, true, refl, sym, ap, ◌∙◌, subst}
use Rattle.std.specs.List.{AllByRecursion, flat_map}
use Rattle.bucket_store.specs.Change.{with_changes}
use Rattle.bucket_store.specs.Refusal.{named_by, no_bucket}
use Rattle.bucket_store.specs.declared.policy_changes.Change.{Change}
use Rattle.app_registry.specs.Ident.{ident_fault}
use Rattle.app_registry.specs.Refusal as registry
use Rattle.app_registry.specs.Registry.{RegistryLists, with_kind}
use Rattle.app_registry.specs.declared.installs.Install.{Install}
use Rattle.desk_state.specs.Layout.{has_layout, settled}
use Rattle.desk_state.specs.Rules.{Refuses}
use Rattle.desk_state.specs.declared.commands.Command.{Command}
use Rattle.desk_state.specs.declared.commands.Command.TheVariants.{Convert}
use Rattle.desk_state.specs.parts.Following.{package_changes}
use Rattle.desk_state.specs.parts.Stepping.{Settles}
use Rattle.desk_state.proofs.Commanding.{named-convert, follows-convert}
use Rattle.desk_state.proofs.Deciding.{on_convert, refused_by_registry, stepped_by_registry, laid_known, or_nothing}
use Rattle.desk_state.proofs.desks.Desk.convert.Goals as goal

pub returns-in-Err : goal.returns-in-Err
returns-in-Err c =
    let desk = c.args.self.now in
    let command : Command = Convert c.args.package.now c.args.hybrid in
    let refused =
    subst (λ (lists : RegistryLists). registry.Refuses c.in-Err.refusal (registry.convert_fault lists c.args.package.now)) c.registry.ensures.registry
    c.in-Err.ensures.refused in
    subst (Refuses desk command) (sym c.refused_by_registry.ensures)
    (refused_by_registry desk command (on_convert desk c.args.package.now c.args.hybrid c.requires) c.in-Err.refusal (subst (λ fault. registry.Refuses c.in-Err.refusal fault) (sym (or_nothing (registry.convert_fault desk.registry c.args.package.now))) refused))

pub settle-requires : goal.settle-requires
settle-requires c =
    let desk = c.args.self.now in
    let is = c.registry.ensures.desk in
    let has : has_layout desk.database ≡ true = laid_known (has_layout desk.database) c.requires.known in
    let registries : c.in-Ok.registry ≡ with_kind desk.registry c.args.package.now c.args.hybrid =
    c.in-Ok.ensures.registry ∙ ap (λ (lists : RegistryLists). with_kind lists c.args.package.now c.args.hybrid) c.registry.ensures.registry in
    let before : c.registry-before.result.now ≡ desk.registry = c.registry-before.ensures.registry in
    let installs : c.installs.result.now ≡ desk.registry.installs = c.installs.ensures.installs ∙ ap (λ (lists : RegistryLists). lists.installs) before in
    let idents : AllByRecursion (λ (install : Install). ident_fault install.package ≡ None) desk.registry.installs =
    subst (AllByRecursion (λ (install : Install). ident_fault install.package ≡ None)) installs c.idents_fit.ensures in
    let sound : ident_fault c.args.package.now ≡ None = c.as_slice.ensures.ident in
    let changes : c.deref.result.now ≡ package_changes c.args.package.now desk.registry.installs (with_kind desk.registry c.args.package.now c.args.hybrid).installs =
    c.deref.ensures.value ∙ c.in-Ok-package_changes.ensures ∙ (λ i. package_changes c.args.package.now (before i).installs (registries i).installs) in
    record {
      laid = has;
      named = subst (λ list. no_bucket (flat_map named_by list) desk.database ≡ None) (sym changes) (named-convert desk is has c.args.package.now c.args.hybrid);
      follows =
          subst (λ (list : List Change). with_changes list desk.database ≡ settled c.in-Ok.registry desk.database) (sym changes)
          (subst (λ (lists : RegistryLists). with_changes (package_changes c.args.package.now desk.registry.installs (with_kind desk.registry c.args.package.now c.args.hybrid).installs) desk.database ≡ settled lists desk.database) (sym registries) (follows-convert desk is has c.args.package.now c.args.hybrid sound idents));
    }

pub returns : goal.returns
returns c =
    let desk = c.args.self.now in
    let command : Command = Convert c.args.package.now c.args.hybrid in
    let registries : c.in-Ok.registry ≡ with_kind desk.registry c.args.package.now c.args.hybrid =
    c.in-Ok.ensures.registry ∙ ap (λ (lists : RegistryLists). with_kind lists c.args.package.now c.args.hybrid) c.registry.ensures.registry in
    let accepted : registry.convert_fault desk.registry c.args.package.now ≡ None =
    subst (λ (lists : RegistryLists). registry.convert_fault lists c.args.package.now ≡ None) c.registry.ensures.registry c.in-Ok.ensures.accepted in
    stepped_by_registry desk command (on_convert desk c.args.package.now c.args.hybrid c.requires) (or_nothing (registry.convert_fault desk.registry c.args.package.now) ∙ accepted) refl refl c.settle.result
    (subst (λ (lists : RegistryLists). Settles desk lists c.settle.result) registries c.settle.ensures)
