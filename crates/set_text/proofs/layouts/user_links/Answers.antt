use Rattle.std.proofs.Common.{map, reverse, subst, sym}
use Rattle.std.specs.List.Sorted.{IsStrictlySortedBy}
use Rattle.bucket_store.specs.Order.{policy_cmp}
use Rattle.bucket_store.proofs.Sound.{policy_total}
use Rattle.app_registry.proofs.Rising.{rising_rises}
use Rattle.desk_state.specs.Layout.{user_link}
use Rattle.set_text.proofs.layouts.user_links.Goals as goal

pub place-requires : goal.place-requires
place-requires c =
    subst (IsStrictlySortedBy policy_cmp) (sym c.loop-user.invariant)
    (rising_rises policy_total (map user_link (reverse (map (λ user. user.now) c.loop-user.yielded))))
