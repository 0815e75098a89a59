-- What a command makes of a policy state, where no rule refuses it.
use Rattle.std.specs.Prelude.{ℕ, ◌+◌, List, [], length}
use Rattle.bucket_store.specs.Database.{Database}
use Rattle.bucket_store.specs.Change.{listed}
use Rattle.bucket_store.specs.Refusal.{Request, set_bucket, remove_bucket, set_policies, erase}
use Rattle.app_registry.specs.Registry.{RegistryLists, with_user, without_user}
use Rattle.app_registry.specs.Registry.{with_install, without_install, with_kind}
use Rattle.rule_templates.specs.declared.lines.TemplateLine.{TemplateLine}
use Rattle.desk_state.specs.DeskState.{DeskState}
use Rattle.desk_state.specs.Layout.{laid_out, settled}
use Rattle.desk_state.specs.declared.commands.Command.{Command}
use Rattle.desk_state.specs.declared.commands.Command.TheVariants.{SetBucket, RemoveBucket, SetPolicies, Erase, Layout}
use Rattle.desk_state.specs.declared.commands.Command.TheVariants.{SetTemplate, UserSet, UserRemove, Install, Uninstall}
use Rattle.desk_state.specs.declared.commands.Command.TheVariants.{Convert}

-- a request that names no bucket and leads to this database
abbrev pub leads_to : Database → Request
leads_to database = record { named = []; removed = []; headed = []; next = database }

abbrev pub next_registry : RegistryLists → Command → RegistryLists
next_registry registry (UserSet uid kind) = with_user registry uid kind
next_registry registry (UserRemove uid) = without_user registry uid
next_registry registry (Install install) = with_install registry install
next_registry registry (Uninstall app scope) = without_install registry app scope
next_registry registry (Convert name hybrid) = with_kind registry name hybrid
next_registry registry command = registry

-- what the command asks of the database: users and installs decide its two buckets anew, from the whole registry
abbrev pub request : DeskState → Command → Request
request desk (SetBucket name fallback) = set_bucket name fallback desk.database
request desk (RemoveBucket name) = remove_bucket name desk.database
request desk (SetPolicies changes) = set_policies changes desk.database
request desk (Erase name filter) = erase name filter desk.database
request desk Layout = leads_to (laid_out desk.database)
request desk (SetTemplate template) = leads_to desk.database
request desk command = leads_to (settled (next_registry desk.registry command) desk.database)

abbrev pub next_template : List TemplateLine → Command → List TemplateLine
next_template old (SetTemplate template) = template
next_template old command = old

-- the next state, with the next commit number, also where nothing else changes
abbrev pub next : DeskState → Command → DeskState
next desk command = record {
  commit = desk.commit + 1;
  database = (request desk command).next;
  registry = next_registry desk.registry command;
  template = next_template desk.template command;
}

-- how many policies an erasing takes away
abbrev pub erased_by : DeskState → Command → ℕ
erased_by desk (Erase name filter) = length (listed name filter desk.database)
erased_by desk command = 0
