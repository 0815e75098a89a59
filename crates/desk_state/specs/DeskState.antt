-- The policy state of a device, as contracts see it.
use Rattle.std.specs.Prelude.{ℕ, List}
use Rattle.std.specs.List.{flat_map}
use Rattle.bucket_store.specs.Database as database
use Rattle.bucket_store.specs.Database.{Database}
use Rattle.app_registry.specs.Registry.{RegistryLists, no_entries, packages}
use Rattle.smack_rules.specs.declared.rule.Rule.{Rule}
use Rattle.rule_templates.specs.Expansion.{expansion}
use Rattle.rule_templates.specs.Usual.{usual_template}
use Rattle.rule_templates.specs.declared.lines.TemplateLine.{TemplateLine}

pub record DeskState : Type 0 where
  -- the number of the last accepted command
  pub commit : ℕ
  pub database : Database
  pub registry : RegistryLists
  pub template : List TemplateLine

-- before the first command
abbrev pub fresh : DeskState
fresh = record { commit = 0; database = database.fresh; registry = no_entries; template = usual_template }

-- the Smack rules of a package
abbrev pub package_rules : DeskState → List ℕ → List Rule
package_rules desk name = expansion desk.template desk.registry name

-- the Smack rules of all packages, in the order of their names
abbrev pub smack_rules : DeskState → List Rule
smack_rules desk = flat_map (package_rules desk) (packages desk.registry.installs)
