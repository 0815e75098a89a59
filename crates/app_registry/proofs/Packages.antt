-- The installs of a package, which stand together.
use Rattle.std.proofs.Common.{◌≡◌, ℕ, zero, suc, ◌+◌, ◌<◌, Bool, true, false, not, ◌&&◌, ◌||◌, cond, List, [], ◌∷◌, ◌++◌, length, get_or, take, drop, filter, find, Some, refl, sym, ap, ◌∙◌, subst, arith, append-nil}
use mathlib.Core.Bool.{true≢false}
use mathlib.Core.Logic.{⊎_elim}
use Rattle.std.specs.declared.cmp.Ordering.{Ordering}
use Rattle.std.specs.declared.cmp.Ordering.TheVariants.{Less, Equal, Greater}
use Rattle.std.specs.List.{AllByRecursion, AllWithin, list_any}
use Rattle.std.specs.List.Sorted.{IsStrictlySortedBy, IsPartitionedBy, IsPartitionPoint}
use Rattle.std.specs.Cmp.{first_so}
use Rattle.std.specs.Ordering.{is_lt, is_eq}
use Rattle.std.proofs.lemmas.Bool.{cases_lt}
use Rattle.std.proofs.lemmas.List.{get_or-drop, take-append-drop, length-drop}
use Rattle.std.proofs.lemmas.List.Elements.{filter-append}
use Rattle.std.proofs.lemmas.Map.Keys.{Less-from_sorted}
use Rattle.cynara_keys.specs.Text.{text_cmp}
use Rattle.cynara_keys.proofs.Order.{text_cmp-equal}
use Rattle.app_registry.specs.Install.{comes_before, install_cmp, is_of_app, is_of_package, is_install_of}
use Rattle.app_registry.specs.Scope.{same_scope}
use Rattle.app_registry.specs.Refusal.{is_elsewhere}
use Rattle.app_registry.specs.declared.installs.Install.{Install}
use Rattle.app_registry.proofs.Filters.{NoneDoes}
use Rattle.app_registry.proofs.Search.{not_of-behind, not_of-before}

module _ {X : Type 0} (p : X → Bool) where
  filter-none : (xs : List X) → AllByRecursion (λ x. p x ≡ false) xs → filter p xs ≡ []
  filter-none [] none = refl
  filter-none (x ∷ xs) none = ap (λ b. cond b (x ∷ filter p xs) (filter p xs)) none.0 ∙ filter-none xs none.1

  filter-all : (xs : List X) → AllByRecursion (λ x. p x ≡ true) xs → filter p xs ≡ xs
  filter-all [] all = refl
  filter-all (x ∷ xs) all =
      ap (λ b. cond b (x ∷ filter p xs) (filter p xs)) all.0 ∙ ap (λ rest. x ∷ rest) (filter-all xs all.1)

-- what holds of the elements below a place holds of those in front of it
in_front : {X : Type 0} (P : X → Type 0) (xs : List X) (at : ℕ) → AllWithin P xs 0 at → AllByRecursion P (take at xs)
in_front P [] zero holds = tt
in_front P [] (suc at) holds = tt
in_front P (x ∷ xs) zero holds = tt
in_front P (x ∷ xs) (suc at) holds =
    (holds 0 x (omega arith) (omega arith), in_front P xs at (λ k d le lt. holds (suc k) d (omega arith) (omega arith)))

-- what holds of the elements from a place on holds of those behind it
behind : {X : Type 0} (P : X → Type 0) (xs : List X) (at : ℕ) → AllWithin P xs at (length xs)
    → AllByRecursion P (drop at xs)
behind P [] zero holds = tt
behind P [] (suc at) holds = tt
behind P (x ∷ xs) zero holds =
    (holds 0 x (omega arith) (omega arith), behind P xs 0 (λ k d le lt. holds (suc k) d (omega arith) (omega arith)))
behind P (x ∷ xs) (suc at) holds = behind P xs at (λ k d le lt. holds (suc k) d (omega arith) (omega arith))

-- where the elements that pass stand together, the part from the first to the last is all of them
together : {X : Type 0} (p : X → Bool) (xs : List X) (start count : ℕ) → AllWithin (λ x. p x ≡ false) xs 0 start
    → IsPartitionPoint (λ x. p x ≡ true) (λ x. p x ≡ false) (drop start xs) count
    → take count (drop start xs) ≡ filter p xs
together p xs start count before parted =
    let rest = drop start xs in
    let none : filter p (take start xs) ≡ [] =
    filter-none p (take start xs) (in_front (λ x. p x ≡ false) xs start before) in
    let all : filter p (take count rest) ≡ take count rest =
    filter-all p (take count rest) (in_front (λ x. p x ≡ true) rest count parted.0) in
    let last : filter p (drop count rest) ≡ [] =
    filter-none p (drop count rest) (behind (λ x. p x ≡ false) rest count parted.1) in
    let inner : filter p rest ≡ take count rest =
    ap (filter p) (sym (take-append-drop count rest)) ∙ filter-append p (take count rest) (drop count rest)
    ∙ (λ i. all i ++ last i) ∙ append-nil (take count rest) in
    sym (ap (filter p) (sym (take-append-drop start xs)) ∙ filter-append p (take start xs) rest ∙ (λ i. none i ++ inner i))

module _ (name : List ℕ) (installs : List Install) (rises : IsStrictlySortedBy install_cmp installs) (start : ℕ)
    (parted : IsPartitionPoint (λ other. comes_before name other ≡ true) (λ other. comes_before name other ≡ false) installs start) where
  own : (a b : Install) (o : Ordering) → text_cmp a.«package» name ≡ o → is_lt o ≡ false → install_cmp a b ≡ Less
      → is_of_package name b ≡ true → is_of_package name a ≡ true
  own a b Less at not_before order last = cc
  own a b Equal at not_before order last = sym (text_cmp-equal a.«package» name) ∙ ap is_eq at
  own a b Greater at not_before order last =
      absurd (true≢false (sym last ∙ not_of-behind name installs rises a b (is_of_package name b) refl order at))

  -- behind the installs of packages before it, those of the package come first
  pub own_first : IsPartitionedBy (is_of_package name) (drop start installs)
  own_first i j d le within last =
      ⊎_elim
      (λ lt.
      let inside : start + j < length installs = omega (arith, within, length-drop start installs) in
      let order = Less-from_sorted install_cmp installs (start + i) (start + j) d rises (omega arith) inside in
      let a = get_or installs (start + i) d in
      ap (is_of_package name) (get_or-drop start installs i d)
      ∙ own a (get_or installs (start + j) d) (text_cmp a.«package» name) refl
      (parted.1 (start + i) d (omega arith) (omega arith)) order
      (sym (ap (is_of_package name) (get_or-drop start installs j d)) ∙ last))
      (λ ge. let same : j ≡ i = omega arith in
      subst (λ k. is_of_package name (get_or (drop start installs) k d) ≡ true) same last) (cases_lt i j)

  pub all_of_package : (count : ℕ)
      → IsPartitionPoint (λ x. is_of_package name x ≡ true) (λ x. is_of_package name x ≡ false) (drop start installs) count
      → take count (drop start installs) ≡ filter (is_of_package name) installs
  all_of_package count own =
      together (is_of_package name) installs start count
      (λ k d le lt. not_of-before name installs rises (get_or installs k d) (parted.0 k d le lt)) own

-- a test that only installs of the package pass finds the same among them
module _ {X : Type 0} (p q : X → Bool) where
  kept : (x : X) (xs : List X) (a : Bool) → q x ≡ a → find p (filter q xs) ≡ find (λ x. q x && p x) xs
      → find p (filter q (x ∷ xs)) ≡ find (λ x. q x && p x) (x ∷ xs)
  kept x xs true is rest =
      ap (λ a. find p (cond a (x ∷ filter q xs) (filter q xs))) is ∙ ap (λ rest. cond (p x) (Some x) rest) rest
      ∙ ap (λ a. cond (a && p x) (Some x) (find (λ x. q x && p x) xs)) (sym is)
  kept x xs false is rest =
      ap (λ a. find p (cond a (x ∷ filter q xs) (filter q xs))) is ∙ rest
      ∙ ap (λ a. cond (a && p x) (Some x) (find (λ x. q x && p x) xs)) (sym is)

  pub find-filter : (xs : List X) → find p (filter q xs) ≡ find (λ x. q x && p x) xs
  find-filter [] = refl
  find-filter (x ∷ xs) = kept x xs (q x) refl (find-filter xs)

-- a test that passes elements of these alone, unless the other test finds one elsewhere
module _ {X : Type 0} (p q e : X → Bool) (elsewhere : (x : X) → p x ≡ true → q x ≡ false → e x ≡ true) where
  fails : (x : X) (b : Bool) → p x ≡ b → q x ≡ false → e x ≡ false → b ≡ false
  fails x true is outside nowhere = absurd (true≢false (sym (elsewhere x is outside) ∙ nowhere))
  fails x false is outside nowhere = refl

  any_kept : (x : X) (xs : List X) (a : Bool) → q x ≡ a → e x ≡ false → list_any p (filter q xs) ≡ list_any p xs
      → list_any p (filter q (x ∷ xs)) ≡ (p x || list_any p xs)
  any_kept x xs true is nowhere rest =
      ap (λ a. list_any p (cond a (x ∷ filter q xs) (filter q xs))) is ∙ ap (λ b. p x || b) rest
  any_kept x xs false is nowhere rest =
      ap (λ a. list_any p (cond a (x ∷ filter q xs) (filter q xs))) is ∙ rest
      ∙ ap (λ b. b || list_any p xs) (sym (fails x (p x) refl is nowhere))

  pub list_any-among : (xs : List X) → NoneDoes e xs → list_any p (filter q xs) ≡ list_any p xs
  list_any-among [] none = refl
  list_any-among (x ∷ xs) none = any_kept x xs (q x) refl none.0 (list_any-among xs none.1)

-- an install of the application for the scope that is not of the package stands elsewhere
pub is_elsewhere-apart : (install other : Install) → is_install_of install.app install.scope other ≡ true
    → is_of_package install.«package» other ≡ false → is_elsewhere install other ≡ true
is_elsewhere-apart install other is apart = λ i. first_so (is_of_app install.app other) (same_scope other.scope install.scope) is i && not (apart i)
