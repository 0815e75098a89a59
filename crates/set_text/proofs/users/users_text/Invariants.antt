use Rattle.std.proofs.Common.{◌≡◌, ◌≤◌, take}
use Rattle.std.specs.List.{AllByRecursion}
use Rattle.app_registry.specs.declared.users.User.{User}
use Rattle.set_text.specs.Registry.{last_uid, users_text}
use Rattle.set_text.proofs.users.users_text.Given as goal

-- the lines so far
abbrev pub invariant-loop-user : goal.invariant-loop-user
invariant-loop-user l = record {
  text : l.text.items ≡ users_text (take l.user-index l.users);
  spelt : AllByRecursion (λ (user : User). user.uid ≤ last_uid) (take l.user-index l.users);
}
