-- The first install of a package, which a search of the installs in their order finds.
use Rattle.std.proofs.Common.{◌≡◌, ℕ, ◌<◌, ◌≤◌, Bool, true, false, List, length, get_or, Some, None, find, refl, sym, ap, ◌∙◌, subst, arith}
use mathlib.Core.Logic.{⊎_elim}
use Rattle.std.specs.declared.cmp.Ordering.{Ordering}
use Rattle.std.specs.declared.cmp.Ordering.TheVariants.{Less, Equal, Greater}
use Rattle.std.specs.List.{slice_get}
use Rattle.std.specs.List.Sorted.{IsStrictlySortedBy, IsPartitionedBy, IsPartitionPoint}
use Rattle.std.specs.Ordering.{is_lt, is_eq, ordering_then}
use Rattle.std.proofs.lemmas.Bool.{cases_lt}
use Rattle.std.proofs.lemmas.Cmp.{nat_list_cmp_total, alike_right}
use Rattle.std.proofs.lemmas.List.Elements.{recursion_from_All}
use Rattle.std.proofs.lemmas.List.Folds.{find_at}
use Rattle.std.proofs.lemmas.List.Sums.{position_or_len_is}
use Rattle.std.proofs.lemmas.Map.Keys.{Less-from_sorted}
use Rattle.std.proofs.lemmas.Option.{same_Some, slice_get-get_or}
use Rattle.cynara_keys.specs.Text.{text_cmp}
use Rattle.cynara_keys.proofs.Order.{text_cmp-equal}
use Rattle.app_registry.proofs.Filters.{find-none}
use Rattle.app_registry.specs.Install.{comes_before, install_cmp, is_of_package}
use Rattle.app_registry.specs.declared.installs.Install.{Install}

is_lt-Less : (o : Ordering) → is_lt o ≡ true → o ≡ Less
is_lt-Less Less h = refl
is_lt-Less Equal h = cc
is_lt-Less Greater h = cc

is_eq-Equal : (o : Ordering) → is_eq o ≡ true → o ≡ Equal
is_eq-Equal Less h = cc
is_eq-Equal Equal h = refl
is_eq-Equal Greater h = cc

-- an install before another has a package before that of the other, or the same
not_above : (o p : Ordering) → ordering_then o p ≡ Less → (o ≡ Greater → ⊥)
not_above Less p h e = cc
not_above Equal p h e = cc
not_above Greater p h e = cc

before_too : (a b name : List ℕ) (o : Ordering) → text_cmp a b ≡ o → (o ≡ Greater → ⊥) → text_cmp b name ≡ Less
    → text_cmp a name ≡ Less
before_too a b name Less at below before = nat_list_cmp_total.trans a b name at before
before_too a b name Equal at below before = nat_list_cmp_total.congr a b name at ∙ before
before_too a b name Greater at below before = absurd (below refl)

package_order : (a b : Install) → install_cmp a b ≡ Less → (text_cmp a.«package» b.«package» ≡ Greater → ⊥)
package_order a b h = not_above (text_cmp a.«package» b.«package») _ h

module _ (name : List ℕ) (installs : List Install) (rises : IsStrictlySortedBy install_cmp installs) where
  earlier : (i j : ℕ) (d : Install) → i < j → j < length installs → comes_before name (get_or installs j d) ≡ true
      → comes_before name (get_or installs i d) ≡ true
  earlier i j d lt within before =
      let order = Less-from_sorted install_cmp installs i j d rises lt within in
      let a = get_or installs i d in
      let b = get_or installs j d in
      ap is_lt (before_too a.«package» b.«package» name (text_cmp a.«package» b.«package») refl (package_order a b order)
      (is_lt-Less (text_cmp b.«package» name) before))

  pub is_partitioned : IsPartitionedBy (comes_before name) installs
  is_partitioned i j d le within before =
      ⊎_elim (λ lt. earlier i j d lt within before)
      (λ ge. let same : j ≡ i = omega arith in subst (λ k. comes_before name (get_or installs k d) ≡ true) same before)
      (cases_lt i j)

  not_of : (install : Install) (o : Ordering) → text_cmp install.«package» name ≡ o → is_eq o ≡ false
      → is_of_package name install ≡ false
  not_of install o at apart = sym (text_cmp-equal install.«package» name) ∙ ap is_eq at ∙ apart

  pub not_of-before : (install : Install) → comes_before name install ≡ true → is_of_package name install ≡ false
  not_of-before install before = not_of install Less (is_lt-Less (text_cmp install.«package» name) before) refl

  -- a search ends at an install of the package, which is the first
  pub find-at : (at : ℕ) (install : Install) → at < length installs
      → IsPartitionPoint (λ other. comes_before name other ≡ true) (λ other. comes_before name other ≡ false) installs at
      → install ≡ get_or installs at install → is_of_package name install ≡ true
      → find (is_of_package name) installs ≡ Some install
  find-at at install within parted is own =
      let place =
      position_or_len_is (is_of_package name) installs at install (omega arith)
      (λ k lt. not_of-before (get_or installs k install) (parted.0 k install (omega arith) lt))
      (λ lt. ap (is_of_package name) (sym is) ∙ own) in
      find_at (is_of_package name) installs ∙ ap (slice_get installs) place ∙ slice_get-get_or installs at install within
      ∙ ap (λ other. Some other) (sym is)

  above : (o : Ordering) → is_lt o ≡ false → is_eq o ≡ false → o ≡ Greater
  above Less first second = cc
  above Equal first second = cc
  above Greater first second = refl

  -- an install behind one whose package comes behind the name is not of the package either
  pub not_of-behind : (a b : Install) (same : Bool) → is_of_package name b ≡ same → install_cmp a b ≡ Less
      → text_cmp a.«package» name ≡ Greater → same ≡ false
  not_of-behind a b true is order greater =
      let tied = is_eq-Equal (text_cmp b.«package» name) (text_cmp-equal b.«package» name ∙ is) in
      absurd (package_order a b order (alike_right nat_list_cmp_total b.«package» name a.«package» tied ∙ greater))
  not_of-behind a b false is order greater = refl

  -- a search ends where no install is of the package, and then none is
  pub find-nowhere : (at : ℕ) → at ≤ length installs
      → IsPartitionPoint (λ other. comes_before name other ≡ true) (λ other. comes_before name other ≡ false) installs at
      → ((d : Install) → at < length installs → is_of_package name (get_or installs at d) ≡ false)
      → find (is_of_package name) installs ≡ None
  find-nowhere at le parted apart =
      find-none (is_of_package name) installs
      (recursion_from_All (λ other. is_of_package name other ≡ false) installs (λ k d within.
      ⊎_elim (λ lt. not_of-before (get_or installs k d) (parted.0 k d (omega arith) lt))
      (λ ge. ⊎_elim
      (λ lt.
      let here : at < length installs = omega arith in
      let greater =
      above (text_cmp (get_or installs at d).«package» name) (parted.1 at d (omega arith) here)
      (text_cmp-equal (get_or installs at d).«package» name ∙ apart d here) in
      not_of-behind (get_or installs at d) (get_or installs k d) (is_of_package name (get_or installs k d)) refl
      (Less-from_sorted install_cmp installs at k d rises lt within) greater)
      (λ back. let same : at ≡ k = omega arith in
      subst (λ i. is_of_package name (get_or installs i d) ≡ false) same (apart d (omega arith))) (cases_lt at k))
      (cases_lt k at)))

  -- a search ends at an install of another package
  pub find-not_at : (at : ℕ) (install : Install) → at < length installs
      → IsPartitionPoint (λ other. comes_before name other ≡ true) (λ other. comes_before name other ≡ false) installs at
      → install ≡ get_or installs at install → is_of_package name install ≡ false → find (is_of_package name) installs ≡ None
  find-not_at at install within parted is other =
      find-nowhere at (omega arith) parted (λ d lt.
      let here : get_or installs at install ≡ get_or installs at d =
      same_Some _ _ (sym (slice_get-get_or installs at install within) ∙ slice_get-get_or installs at d within) in
      subst (λ own. is_of_package name own ≡ false) (is ∙ here) other)
