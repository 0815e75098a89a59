use Rattle.std.proofs.Common.{◌≡◌, map, reverse}
use Rattle.bucket_store.specs.Order.{policy_cmp}
use Rattle.app_registry.specs.Rising.{rising}
use Rattle.desk_state.specs.Layout.{user_link}
use Rattle.set_text.proofs.layouts.user_links.Given as goal

-- the links of the last users
abbrev pub invariant-loop-user : goal.invariant-loop-user
invariant-loop-user l = l.policies.items
    ≡ rising policy_cmp (map user_link (reverse (map (λ user. user.now) l.yielded)))
