-- The levels that a user has set.
use Rattle.std.specs.Prelude.{ℕ, Bool, false, List, [], ◌∷◌, Option, Some, None, decimal, find}
use Rattle.std.specs.List.{filter_map}
use Rattle.cynara_keys.specs.Field.{field_admits}
use Rattle.cynara_keys.specs.PolicyResult.{Ruling, same_result}
use Rattle.cynara_keys.specs.declared.fields.Field.{Field}
use Rattle.cynara_keys.specs.declared.fields.Field.TheVariants.{Any, Exact}
use Rattle.cynara_keys.specs.declared.fields.FilterField.TheVariants.{Every, Exact as ExactStored}
use Rattle.cynara_keys.specs.declared.keys.Filter.{Filter}
use Rattle.cynara_keys.specs.declared.keys.Policy.{Policy}
use Rattle.bucket_store.specs.Change.{listed}
use Rattle.bucket_store.specs.Database.{Database, root}
use Rattle.level_requests.specs.declared.levels.Level.{Level}
use Rattle.level_requests.specs.declared.levels.Level.TheVariants.{Allow, Ask, Deny}
use Rattle.policy_levels.specs.Command.{result_of}
use Rattle.policy_levels.specs.declared.rows.LevelRow.{LevelRow}

-- the policies for this one user
abbrev pub for_user : ℕ → Filter
for_user uid = record { client = Every; user = ExactStored (decimal uid); privilege = Every }

-- the root bucket's policies for this one user, in the order of their keys
abbrev pub root_rows : Database → ℕ → List Policy
root_rows database uid = listed root (for_user uid) database

abbrev pub is_result : Option Ruling → Ruling → Bool
is_result None result = false
is_result (Some own) result = same_result own result

-- the level that sets the result, if one does
abbrev pub level_of : Ruling → Option Level
level_of result = find (λ level. is_result (result_of level) result) (Allow ∷ Ask ∷ Deny ∷ [])

-- the one name that a field is
abbrev pub exact_name : Field → Option (List ℕ)
exact_name Any = None
exact_name (Exact name) = Some name

-- a row for one application and one privilege, whose result a level sets
abbrev pub row_of : Option (List ℕ) → Option (List ℕ) → Option Level → Option LevelRow
row_of (Some client) (Some privilege) (Some level) =
    Some (record { client = client; privilege = privilege; level = level })
row_of client privilege level = None

abbrev pub row_in : Policy → Option LevelRow
row_in policy = row_of (exact_name policy.key.client) (exact_name policy.key.privilege) (level_of policy.result)

-- the levels that these policies are, in their order
abbrev pub levels_among : List Policy → List LevelRow
levels_among policies = filter_map row_in policies

-- the levels of a user, in the order of their keys
abbrev pub levels_in : Database → ℕ → List LevelRow
levels_in database uid = levels_among (root_rows database uid)
