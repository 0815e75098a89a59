-- What holds of the users that a text gives.
use Rattle.std.proofs.Common.{◌≡◌, ℕ, ◌≤◌, true, cond, nat_lt, List, [], ◌∷◌, ◌++◌, length, Some, None, Ok, ap, arith}
use Rattle.std.proofs.Common.{length-append}
use Rattle.std.proofs.lemmas.Bool.{and_parts, ltb-true, le-ltb}
use Rattle.cynara_keys.specs.declared.limits.Counted.TheVariants.{Users}
use Rattle.app_registry.specs.Registry.{user_cmp}
use Rattle.app_registry.specs.Rules.{IsRegistry}
use Rattle.app_registry.specs.declared.refusals.RegistryRefusal.TheVariants.{Limit}
use Rattle.app_registry.specs.Limits.{most_users}
use Rattle.app_registry.specs.declared.users.User.{User}
use Rattle.app_registry.proofs.Changes.{IsRegistry-fresh}
use Rattle.app_registry.proofs.Orders.{user_total}
use Rattle.set_text.specs.Lines.{rises_above}
use Rattle.set_text.specs.Registry.{read_user, user_of, user_fits, users_of}
use Rattle.set_text.proofs.ReadingRising.{sorted-above}
use Rattle.set_text.proofs.ReadingValues.{kept-some, values_of-keep}

users-more : (before : List User) (user : User) → IsRegistry before [] → user_fits before user ≡ true
    → IsRegistry (before ++ user ∷ []) []
users-more before user registry fits =
    let parts = and_parts (rises_above user_cmp before user) (nat_lt (length before) most_users) fits in
    let room = ltb-true (length before) most_users parts.1 in
    let few : length (before ++ user ∷ []) ≤ most_users = omega (arith, length-append before (user ∷ []), room) in
    record {
      users_rise = sorted-above user_total before user registry.users_rise parts.0;
      installs_rise = registry.installs_rise;
      users_known = tt;
      one_package = tt;
      one_author = tt;
      one_kind = tt;
      users_fit = ap (λ b. cond b (Some (Limit Users most_users)) None)
          (le-ltb most_users (length (before ++ user ∷ [])) few);
      installs_fit = registry.installs_fit;
    }

pub users-registry : (text : List ℕ) (users : List User) → users_of text ≡ Ok users → IsRegistry users []
users-registry text users is =
    values_of-keep read_user (λ users. IsRegistry users [])
    (λ before line user registry reads. users-more before user registry
    (kept-some (user_fits before) (user_of line) user reads).1)
    text users IsRegistry-fresh is
