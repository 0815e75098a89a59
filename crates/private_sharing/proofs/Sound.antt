-- What each change leaves of the shares: they rise, each is open, and there are not too many.
use Rattle.std.proofs.Common.{◌≡◌, ℕ, ◌+◌, ◌-◌, ◌≤◌, Bool, true, false, cond, nat_le, List, [], ◌∷◌, length, map, refl, sym, ap, subst, ◌∙◌, arith}
use Rattle.std.specs.declared.cmp.Ordering.TheVariants.{Less}
use Rattle.std.specs.Cmp.{IsTotalOrder}
use Rattle.std.specs.List.{AllByRecursion, filter}
use Rattle.std.specs.List.Sorted.{IsStrictlySortedBy}
use Rattle.std.proofs.lemmas.Bool.{leb-true}
use Rattle.std.proofs.lemmas.Cmp.{on_total, then_total}
use Rattle.std.proofs.lemmas.List.{length-map}
use Rattle.std.proofs.lemmas.List.Kept.{IsStrictlySortedBy-filter}
use Rattle.cynara_keys.proofs.Order.{text_total}
use Rattle.app_registry.specs.Registry.{RegistryLists}
use Rattle.app_registry.proofs.Counts.{length-filter-le}
use Rattle.app_registry.proofs.Rising.{AllByRecursion-filter, AllByRecursion-placed, placed_rises, rises-nil, rises-cons}
use Rattle.private_sharing.specs.Shares.{share_cmp, is_share, count_of, IsShares, opened, lessened, is_open, closed, has_both, settled}
use Rattle.private_sharing.specs.declared.shares.Share.{Share}

pub share_total : IsTotalOrder share_cmp
share_total =
    then_total (on_total (λ (share : Share). share.owner) text_total)
    (then_total (on_total (λ (share : Share). share.target) text_total) (on_total (λ (share : Share). share.name) text_total))

abbrev OpenOnes : List Share → Type 0
OpenOnes = AllByRecursion (λ share. 1 ≤ share.count)

pub IsShares-same : {shares others : List Share} → IsShares others → shares ≡ others → IsShares shares
IsShares-same is same = subst IsShares (sym same) is

pub IsShares-nil : IsShares []
IsShares-nil = record { rise = rises-nil share_total; open_ = tt; few = omega arith }

pub IsShares-opened : (owner target name : List ℕ) (shares : List Share) → IsShares shares
    → length (opened owner target name shares) ≤ 4096 → IsShares (opened owner target name shares)
IsShares-opened owner target name shares is few =
    let share : Share = record { owner = owner; target = target; name = name; count = count_of owner target name shares + 1 } in
    record {
      rise = placed_rises share_total share shares is.rise;
      open_ = AllByRecursion-placed share_total (λ share. 1 ≤ share.count) share shares (omega arith) is.open_;
      few = few;
    }

pub IsShares-settled : (registry : RegistryLists) (shares : List Share) → IsShares shares → IsShares (settled registry shares)
IsShares-settled registry shares is = record {
  rise = IsStrictlySortedBy-filter share_cmp (has_both registry) shares is.rise;
  open_ = AllByRecursion-filter (λ share. 1 ≤ share.count) (has_both registry) shares is.open_;
  few = (let short = length-filter-le (has_both registry) shares in omega (arith, short, is.few));
}

-- ---- a share that is open once less

abbrev less_if : Bool → Share → Share
less_if here share = cond here (record share { count = share.count - 1 }) share

cmp-less : (here there : Bool) (a b : Share) → share_cmp (less_if here a) (less_if there b) ≡ share_cmp a b
cmp-less true true a b = refl
cmp-less true false a b = refl
cmp-less false true a b = refl
cmp-less false false a b = refl

module _ (owner target name : List ℕ) where
  abbrev less : Share → Share
  less = lessened owner target name

  behind-less : (x : Share) (xs : List Share) → AllByRecursion (λ y. share_cmp x y ≡ Less) xs
      → AllByRecursion (λ y. share_cmp (less x) y ≡ Less) (map less xs)
  behind-less x [] behind = tt
  behind-less x (y ∷ ys) behind = (
    cmp-less (is_share owner target name x) (is_share owner target name y) x y ∙ behind.0,
    behind-less x ys behind.1,
  )

  rises-less : (xs : List Share) → IsStrictlySortedBy share_cmp xs → IsStrictlySortedBy share_cmp (map less xs)
  unfolding IsStrictlySortedBy
  rises-less [] rise = tt
  rises-less (x ∷ xs) rise = (behind-less x xs rise.0, rises-less xs rise.1)

open_kept : (share : Share) (opens : Bool) → is_open share ≡ opens → (kept : List Share) → OpenOnes kept
    → OpenOnes (cond opens (share ∷ kept) kept)
open_kept share true is kept all = (leb-true 1 share.count is, all)
open_kept share false is kept all = all

open_ones : (xs : List Share) → OpenOnes (filter is_open xs)
open_ones [] = tt
open_ones (x ∷ xs) = open_kept x (is_open x) refl (filter is_open xs) (open_ones xs)

pub IsShares-closed : (owner target name : List ℕ) (shares : List Share) → IsShares shares
    → IsShares (closed owner target name shares)
IsShares-closed owner target name shares is =
    let lessened_ones = map (lessened owner target name) shares in record {
      rise = IsStrictlySortedBy-filter share_cmp is_open lessened_ones (rises-less owner target name shares is.rise);
      open_ = open_ones lessened_ones;
      few = (let short = length-filter-le is_open lessened_ones in
          let same : length lessened_ones ≡ length shares = length-map shares (lessened owner target name) in
          omega (arith, short, same, is.few));
    }
