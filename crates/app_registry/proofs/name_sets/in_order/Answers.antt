use Rattle.std.proofs.Common.{◌≡◌, sym, subst}
use Rattle.std.specs.List.Sorted.{IsStrictlySortedBy}
use Rattle.std.proofs.lemmas.Cmp.{nat_list_cmp_total}
use Rattle.cynara_keys.specs.Text.{text_cmp}
use Rattle.app_registry.specs.Rising.{rising}
use Rattle.app_registry.proofs.Names.{rising_names}
use Rattle.app_registry.proofs.Rising.{rising_rises}
use Rattle.app_registry.proofs.name_sets.in_order.Goals as goal

pub returns : goal.returns
returns c =
    let is : c.dedup.new.self.items ≡ rising text_cmp c.args.names.items =
    rising_names _ _ _ c.sort_unstable.ensures.permutation c.sort_unstable.ensures.sorted c.dedup.ensures.filtered in
    record {
      names = is;
      rising = subst (IsStrictlySortedBy text_cmp) (sym is) (rising_rises nat_list_cmp_total c.args.names.items);
    }
