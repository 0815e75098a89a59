-- The command of a level concerns its user alone.
use Rattle.std.proofs.Common.{◌≡◌, ℕ, List, [], ◌∷◌, decimal, Option, Some, None, refl, ap}
use Rattle.std.specs.List.Sorted.{IsStrictlySortedBy}
use Rattle.cynara_keys.specs.Key.{Key}
use Rattle.cynara_keys.specs.PolicyResult.{Ruling}
use Rattle.bucket_store.specs.Order.{placed_cmp}
use Rattle.desk_state.specs.DeskState.{DeskState}
use Rattle.desk_state.specs.Next.{next}
use Rattle.level_requests.specs.declared.requests.LevelRequest.{LevelRequest}
use Rattle.policy_levels.specs.Command.{result_of, bucket_of, uid_of, key_of, change_to, change_of, command_of}
use Rattle.policy_levels.specs.Isolation.{ConcernsAlone}
use Rattle.policy_levels.proofs.Alone.{key_in, change-alone}

key-changed : (name : List ℕ) (key : Key) (result : Option Ruling) → key_in (change_to name key result) ≡ key
key-changed name key (Some result) = refl
key-changed name key None = refl

pub command-alone : (desk : DeskState) (request : LevelRequest) → IsStrictlySortedBy placed_cmp desk.database.policies
    → ConcernsAlone (uid_of request) desk.database (next desk (command_of request)).database
command-alone desk request rise =
    change-alone (uid_of request) desk.database rise (change_of request)
    (ap (λ key. key.user) (key-changed (bucket_of request.by) (key_of request) (result_of request.level)))
