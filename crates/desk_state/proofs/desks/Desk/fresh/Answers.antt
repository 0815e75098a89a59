use Rattle.std.proofs.Common.{◌≡◌, [], ◌∷◌, IsTrue, false, rules, refl, sym, inl, arith, subst}
use Rattle.cynara_keys.specs.PolicyResult.{deny}
use Rattle.bucket_store.specs.Bucket.{Bucket}
use Rattle.bucket_store.specs.Database.{Database, has_bucket}
use Rattle.std.specs.List.{AllByRecursion}
use Rattle.desk_state.specs.Layout.{built_in}
use Rattle.app_registry.specs.Rules.{IsRegistry}
use Rattle.bucket_store.specs.WellFormed.{IsWellFormed}
use Rattle.bucket_store.proofs.Kept.{fresh_kept}
use Rattle.bucket_store.proofs.Sound.{well_formed}
use Rattle.app_registry.specs.Registry.{RegistryLists}
use Rattle.app_registry.proofs.Changes.{IsRegistry-fresh}
use Rattle.rule_templates.specs.Template.{is_template}
use Rattle.desk_state.specs.DeskState.{fresh}
use Rattle.desk_state.specs.IsDesk.{IsBare}
use Rattle.desk_state.proofs.desks.Desk.fresh.Goals as goal

abbrev root : Bucket
root = record { name = []; fallback = record { kind = deny; metadata = [] }; policies = [] }

bare : IsBare fresh
bare = record { no_bucket = (refl, (refl, (refl, (refl, (refl, (refl, (refl, tt))))))); nobody = refl }

pub invariant_of-result : goal.invariant_of-result
invariant_of-result c =
    let kept : IsTrue (is_template c.in_ok-template.template) = rw (← c.template.view_is) c.template.invariant in
    let databases : fresh.database ≡ c.in_ok-database.database = search rules in
    let registries : fresh.registry ≡ c.fresh-2.result = sym c.fresh-2.ensures in
    record {
      database = subst IsWellFormed databases (well_formed (root ∷ []) fresh_kept);
      registry = subst (λ (lists : RegistryLists). IsRegistry lists.users lists.installs) registries IsRegistry-fresh;
      template = kept;
      commit = omega arith;
      layout = inl (record {
        no_bucket = subst (λ (database : Database). AllByRecursion (λ name. has_bucket name database ≡ false) built_in) databases bare.no_bucket;
        nobody = c.fresh-2.ensures;
      });
    }
