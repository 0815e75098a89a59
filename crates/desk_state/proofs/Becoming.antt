-- What a state is after a change that was made in place.
use Rattle.std.proofs.Common.{◌≡◌, ℕ, ◌+◌, ◌≤◌, true, cond, List, None, Some, Ok, refl, sym, ap, ◌∙◌, subst, arith}
use Rattle.std.specs.List.{flat_map}
use Rattle.std.proofs.lemmas.Bool.{ne_eqb}
use Rattle.cynara_keys.specs.declared.limits.Counted.TheVariants.{Commits}
use Rattle.bucket_store.specs.Change.{with_changes}
use Rattle.bucket_store.specs.Database.{Database}
use Rattle.bucket_store.specs.Refusal as store
use Rattle.bucket_store.specs.Refusal.{named_by, no_bucket}
use Rattle.bucket_store.specs.WellFormed.{IsWellFormed}
use Rattle.bucket_store.specs.declared.policy_changes.Change.{Change}
use Rattle.app_registry.specs.Refusal as registry
use Rattle.app_registry.specs.Registry.{RegistryLists, with_install, without_install}
use Rattle.app_registry.specs.Rules.{IsRegistry}
use Rattle.app_registry.specs.declared.installs.Install.{Install}
use Rattle.desk_state.specs.DeskState.{DeskState}
use Rattle.desk_state.specs.IsDesk.{IsDesk}
use Rattle.desk_state.specs.Layout.{has_layout, settled}
use Rattle.desk_state.specs.Rules.{commit_limit}
use Rattle.desk_state.specs.declared.commands.Command.TheVariants.{Install as InstallCommand, SetPolicies}
use Rattle.desk_state.specs.declared.desks.Applied.{Applied}
use Rattle.desk_state.specs.Limits.{last_commit}
use Rattle.desk_state.specs.declared.refusals.Refusal.TheVariants.{Limit}
use Rattle.desk_state.specs.parts.Following.{install_changes}
use Rattle.desk_state.specs.parts.Stepping.{IsAllowed, IsApplied, IsArranged, Becomes, moved}
use Rattle.desk_state.proofs.Commanding.{arranged, named-new-install, follows-new-install}
use Rattle.desk_state.proofs.Deciding.{on_install, stepped_by_registry, settles, laid_known}
use Rattle.desk_state.proofs.Keeping.{keeps-set_policies}

not-last : (desk : DeskState) → (desk.commit ≡ last_commit → ⊥) → commit_limit desk.commit ≡ None
not-last desk apart = ap (λ b. cond b (Some (Limit Commits last_commit)) None) (ne_eqb desk.commit last_commit apart)

-- the parts of a state with the next commit number
moved-desk : (desk : DeskState) (database : Database) (lists : RegistryLists) → IsDesk desk
    → (desk.commit ≡ last_commit → ⊥) → IsWellFormed database → IsRegistry lists.users lists.installs
    → IsArranged (moved desk database lists desk.template) → IsDesk (moved desk database lists desk.template)
moved-desk desk database lists is apart well registered laid = record {
  database = well;
  registry = registered;
  template = is.template;
  commit = below desk.commit is.commit apart;
  layout = laid;
}
  where
    below : (commit : ℕ) → commit ≤ last_commit → (commit ≡ last_commit → ⊥) → commit + 1 ≤ last_commit
    below commit most apart = omega (arith, most, apart)

pub set-desk : (desk : DeskState) (changes : List Change) (database : Database) → IsDesk desk
    → IsAllowed desk (SetPolicies changes) → (desk.commit ≡ last_commit → ⊥) → database ≡ with_changes changes desk.database
    → IsWellFormed database → IsDesk (moved desk database desk.registry desk.template)
set-desk desk changes database is allowed apart next well =
    moved-desk desk database desk.registry is apart well is.registry
    (subst (λ (other : Database). IsArranged (moved desk other desk.registry desk.template)) (sym next)
    (keeps-set_policies desk changes is allowed.unreserved (subst IsWellFormed next well)))

-- an install that takes the place of no other, and the changes of `MANIFESTS` by it
pub record IsInstalled (desk : DeskState) (install : Install) (lists : RegistryLists) (changes : List Change) : Type 0 where
  pub lists_is : lists ≡ with_install desk.registry install
  pub accepted : registry.install_fault desk.registry install ≡ None
  pub taken_back : without_install lists install.app install.scope ≡ desk.registry
  pub changes_is : changes ≡ install_changes install

module _ (desk : DeskState) (install : Install) (is : IsDesk desk) (allowed : IsAllowed desk (InstallCommand install))
    (apart : desk.commit ≡ last_commit → ⊥) (lists : RegistryLists) (changes : List Change)
    (made : IsInstalled desk install lists changes) where
  has : has_layout desk.database ≡ true
  has = laid_known (has_layout desk.database) allowed.known

  named : no_bucket (flat_map named_by changes) desk.database ≡ None
  named = subst (λ list. no_bucket (flat_map named_by list) desk.database ≡ None) (sym made.changes_is) (named-new-install desk is has install)

  follows : with_changes changes desk.database ≡ settled (with_install desk.registry install) desk.database
  follows =
      ap (λ list. with_changes list desk.database) made.changes_is
      ∙ follows-new-install desk is has install
      (subst (λ (other : RegistryLists). without_install other install.app install.scope ≡ desk.registry) made.lists_is
      made.taken_back)

  pub install-desk : (database : Database) → database ≡ with_changes changes desk.database → IsWellFormed database
      → IsRegistry lists.users lists.installs → IsDesk (moved desk database lists desk.template)
  install-desk database next well registered =
      moved-desk desk database lists is apart well registered
      (arranged desk database lists desk.template is has
      (next ∙ follows ∙ ap (λ (other : RegistryLists). settled other desk.database) (sym made.lists_is)) well)

  pub install-becomes : (database : Database) → database ≡ with_changes changes desk.database
      → store.fault desk.database (store.set_policies changes desk.database) ≡ None
      → Becomes desk (InstallCommand install) (moved desk database lists desk.template)
  install-becomes database next free =
      let after : DeskState = moved desk database lists desk.template in
      let answer : Applied = record { desk = after; erased = 0 } in
      let same : after ≡ moved desk (settled (with_install desk.registry install) desk.database) (with_install desk.registry install) desk.template =
      λ i. moved desk ((next ∙ follows) i) (made.lists_is i) desk.template in
      let done : IsApplied desk (InstallCommand install) answer =
      stepped_by_registry desk (InstallCommand install) (on_install desk install allowed) made.accepted refl refl (Ok answer)
      (settles desk (with_install desk.registry install) changes named follows free after same (Ok answer)
      (record { next = refl; erased = refl; room = not-last desk apart })) in
      record { next = done.next; erased = sym done.erased; accepted = done.accepted }
