use Rattle.std.proofs.Common.{◌≡◌, List, None, [], ◌∷◌, ◌++◌, take, sym, ap, ◌∙◌, subst}
use Rattle.std.specs.List.{AllByRecursion}
use Rattle.std.proofs.lemmas.List.{take_more}
use Rattle.app_registry.specs.Ident.{ident_fault}
use Rattle.app_registry.specs.declared.installs.Install.{Install}
use Rattle.bucket_store.proofs.Lists.{All-append}
use Rattle.desk_state.proofs.registry_commands.idents_fit.Goals as goal

pub loop-install-preserved : goal.loop-install-preserved
loop-install-preserved c =
    let installs = c.args.installs.now in
    let at = c.loop-install.install-index in
    let install = c.install-item.result in
    let right : ident_fault install.package ≡ None = c.ident_fits.ensures in
    subst (λ (list : List Install). AllByRecursion (λ (install : Install). ident_fault install.package ≡ None) list)
    (sym (take_more installs at install c.loop-install-test.true ∙ ap (λ other. take at installs ++ other ∷ []) (sym c.install-item.is)))
    (All-append (λ (install : Install). ident_fault install.package ≡ None) (take at installs) (install ∷ []) c.loop-install.invariant (right, tt))
