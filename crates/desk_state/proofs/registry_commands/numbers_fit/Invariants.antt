use Rattle.std.proofs.Common.{◌<◌, ◌^◌, take}
use Rattle.std.specs.List.{AllByRecursion}
use Rattle.app_registry.specs.declared.users.User.{User}
use Rattle.desk_state.proofs.registry_commands.numbers_fit.Given as goal

abbrev pub invariant-loop-user : goal.invariant-loop-user
invariant-loop-user l = AllByRecursion (λ (user : User). user.uid < 2 ^ 32) (take l.user-index l.users)
