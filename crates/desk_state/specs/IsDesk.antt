-- What every policy state keeps.
use Rattle.std.specs.Prelude.{◌≡◌, ◌≤◌, ◌⊎◌, true, false, [], IsTrue}
use Rattle.std.specs.List.{AllByRecursion}
use Rattle.cynara_keys.specs.PolicyResult.{deny}
use Rattle.bucket_store.specs.Database.{Heading, has_bucket}
use Rattle.bucket_store.specs.WellFormed.{IsWellFormed}
use Rattle.app_registry.specs.Registry.{no_entries}
use Rattle.app_registry.specs.Rules.{IsRegistry}
use Rattle.rule_templates.specs.Template.{is_template}
use Rattle.desk_state.specs.DeskState.{DeskState}
use Rattle.desk_state.specs.Layout.{built_in, is_managed, settled}
use Rattle.desk_state.specs.Limits.{last_commit}

-- without a layout: none of its buckets is there, and there are no users and no installs
pub record IsBare (desk : DeskState) : Type 0 where
  pub no_bucket : AllByRecursion (λ name. has_bucket name desk.database ≡ false) built_in
  pub nobody : desk.registry ≡ no_entries

-- With the layout: all of its buckets are there; `MAIN` and `MANIFESTS` deny where no policy decides, and have the
-- policies that the registry gives.
pub record IsLaidOut (desk : DeskState) : Type 0 where
  pub buckets : AllByRecursion (λ name. has_bucket name desk.database ≡ true) built_in
  pub denies : AllByRecursion
      (λ (heading : Heading). is_managed heading.name ≡ true → heading.fallback ≡ record { kind = deny; metadata = [] })
      desk.database.buckets
  pub settled : settled desk.registry desk.database ≡ desk.database

pub record IsDesk (desk : DeskState) : Type 0 where
  pub database : IsWellFormed desk.database
  pub registry : IsRegistry desk.registry.users desk.registry.installs
  pub template : IsTrue (is_template desk.template)
  pub commit : desk.commit ≤ last_commit
  pub layout : IsBare desk ⊎ IsLaidOut desk
