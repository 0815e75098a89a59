-- What a level sets, where, and for whom.
use Rattle.std.specs.Prelude.{ℕ, List, [], ◌∷◌, decimal, codes}
use Rattle.std.specs.Prelude.{Option, Some, None}
use Rattle.cynara_keys.specs.Key.{Key}
use Rattle.cynara_keys.specs.PolicyResult.{Ruling, deny, allow}
use Rattle.cynara_keys.specs.declared.fields.Field.TheVariants.{Exact}
use Rattle.bucket_store.specs.declared.policy_changes.Change.{Change}
use Rattle.bucket_store.specs.declared.policy_changes.Change.TheVariants.{Set, Delete}
use Rattle.desk_state.specs.declared.commands.Command.{Command}
use Rattle.desk_state.specs.declared.commands.Command.TheVariants.{SetPolicies}
use Rattle.level_requests.specs.declared.levels.Level.{Level}
use Rattle.level_requests.specs.declared.levels.Level.TheVariants.{Allow, Ask, Deny, Unset}
use Rattle.level_requests.specs.declared.requests.Setter.{Setter}
use Rattle.level_requests.specs.declared.requests.Setter.TheVariants.{Own, Administrator}
use Rattle.level_requests.specs.declared.requests.LevelRequest.{LevelRequest}

-- the result that a level sets; `Unset` sets none
abbrev pub result_of : Level → Option Ruling
result_of Allow = Some (record { kind = allow; metadata = [] })
result_of Ask = Some (record { kind = 10; metadata = codes "ask" })
result_of Deny = Some (record { kind = deny; metadata = [] })
result_of Unset = None

-- the user whom a request of this caller is about
abbrev pub user_of : ℕ → Setter → ℕ
user_of caller Own = caller
user_of caller (Administrator target) = target

-- a user's own levels stand in the root bucket, those of an administrator in `ADMIN`
abbrev pub bucket_of : Setter → List ℕ
bucket_of Own = []
bucket_of (Administrator target) = codes "ADMIN"

abbrev pub uid_of : LevelRequest → ℕ
uid_of request = user_of request.caller request.by

-- a level stands under the application, the one user in decimal, and the privilege
abbrev pub key_of : LevelRequest → Key
key_of request = record {
  client = Exact request.client;
  user = Exact (decimal (uid_of request));
  privilege = Exact request.privilege;
}

abbrev pub change_to : List ℕ → Key → Option Ruling → Change
change_to name key (Some result) = Set name key result
change_to name key None = Delete name key

-- the one change that a request makes
abbrev pub change_of : LevelRequest → Change
change_of request = change_to (bucket_of request.by) (key_of request) (result_of request.level)

abbrev pub command_of : LevelRequest → Command
command_of request = SetPolicies (change_of request ∷ [])
