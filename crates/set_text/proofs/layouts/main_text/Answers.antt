use Rattle.std.proofs.Common.{map, subst, sym}
use Rattle.std.specs.List.Sorted.{IsStrictlySortedBy}
use Rattle.bucket_store.specs.Order.{policy_cmp}
use Rattle.bucket_store.proofs.Sound.{policy_total}
use Rattle.app_registry.proofs.Rising.{rising_rises}
use Rattle.desk_state.specs.Layout.{user_link}
use Rattle.set_text.proofs.layouts.main_text.Goals as goal

pub place-requires : goal.place-requires
place-requires c =
    subst (IsStrictlySortedBy policy_cmp) (sym c.in_ok-policies.ensures)
    (rising_rises policy_total (map user_link c.args.users.now))
