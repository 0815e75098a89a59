-- What a binary search finds in a list that rises, and what an element put there makes of the list.
use Rattle.std.proofs.Common.{◌≡◌, ℕ, ◌+◌, ◌<◌, ◌≤◌, true, false, not, cond, List, [], ◌∷◌, ◌++◌, zero, suc, length}
use Rattle.std.proofs.Common.{take, drop, set, Result, Ok, Err, IfOk, IfErr, Some, None, refl, sym, ap, ◌∙◌, subst}
use Rattle.std.proofs.Common.{arith, add-one, nat_lt}
use Rattle.std.specs.declared.cmp.Ordering.{Ordering}
use Rattle.std.specs.declared.cmp.Ordering.TheVariants.{Less, Equal, Greater}
use Rattle.std.specs.List.{AllByRecursion, HoldsAt, filter, insert, position, prefix_len}
use Rattle.std.specs.List.Sorted.{IsSortedBy, IsSearchInRange, IsBinarySearchResult, IsPartitionPoint}
use Rattle.std.specs.List.Sorted.{IsStrictlySortedBy}
use Rattle.std.specs.Ordering.{is_lt, is_eq, is_gt, ordering_reverse, on}
use Rattle.std.specs.Cmp.{IsTotalOrder}
use Rattle.std.proofs.lemmas.Cmp.{alike_right}
use Rattle.std.proofs.lemmas.Bool.{lt-ltb, le-ltb}
use Rattle.std.proofs.lemmas.List.{get_or-take, get_or-drop, length-drop, length-take-le, take-append-drop, set_at}
use Rattle.std.proofs.lemmas.List.{take_at, drop_at}
use Rattle.std.proofs.lemmas.List.Elements.{recursion_from_All}
use Rattle.std.proofs.lemmas.List.Kept.{IsStrictlySortedBy-filter}
use Rattle.std.proofs.lemmas.List.Sorted.{searchable_from_sorted}
use Rattle.bucket_store.specs.Order.{put}
use Rattle.bucket_store.specs.parts.Search.{StandsAt, BelongsAt}
use Rattle.bucket_store.proofs.Lists.{All-weaker, All-append, All-back, All-passing, filter-all, filter-none}
use Rattle.std.proofs.Math.ListN.{length-append}

-- ---- the parts of the list that a put keeps

module _ {X : Type 0} (answer : X → Ordering) where
  abbrev AllLess : List X → Type 0
  AllLess = AllByRecursion (λ x. answer x ≡ Less)

  abbrev AllGreater : List X → Type 0
  AllGreater = AllByRecursion (λ x. answer x ≡ Greater)

  pub below-front : (front back : List X) → AllLess front → AllGreater back
      → filter (λ x. is_lt (answer x)) (front ++ back) ≡ front
  below-front [] back before behind =
      filter-none (λ x. is_lt (answer x)) back
      (All-weaker (λ x. answer x ≡ Greater) (λ x. is_lt (answer x) ≡ false) (λ x h. ap is_lt h) back behind)
  below-front (x ∷ front) back before behind =
      ap (λ b. cond b (x ∷ filter (λ x. is_lt (answer x)) (front ++ back))
      (filter (λ x. is_lt (answer x)) (front ++ back))) (ap is_lt before.0)
      ∙ ap (λ rest. x ∷ rest) (below-front front back before.1 behind)

  pub above-back : (front back : List X) → AllLess front → AllGreater back
      → filter (λ x. is_gt (answer x)) (front ++ back) ≡ back
  above-back [] back before behind =
      filter-all (λ x. is_gt (answer x)) back
      (All-weaker (λ x. answer x ≡ Greater) (λ x. is_gt (answer x) ≡ true) (λ x h. ap is_gt h) back behind)
  above-back (x ∷ front) back before behind =
      ap (λ b. cond b (x ∷ filter (λ x. is_gt (answer x)) (front ++ back))
      (filter (λ x. is_gt (answer x)) (front ++ back))) (ap is_gt before.0)
      ∙ above-back front back before.1 behind

  -- the same around an element that ties
  pub below-tied : (front : List X) (x : X) (back : List X) → AllLess front → answer x ≡ Equal → AllGreater back
      → filter (λ x. is_lt (answer x)) (front ++ x ∷ back) ≡ front
  below-tied [] x back before ties behind =
      ap (λ b. cond b (x ∷ filter (λ x. is_lt (answer x)) back) (filter (λ x. is_lt (answer x)) back)) (ap is_lt ties)
      ∙ filter-none (λ x. is_lt (answer x)) back
      (All-weaker (λ x. answer x ≡ Greater) (λ x. is_lt (answer x) ≡ false) (λ x h. ap is_lt h) back behind)
  below-tied (y ∷ front) x back before ties behind =
      ap (λ b. cond b (y ∷ filter (λ x. is_lt (answer x)) (front ++ x ∷ back))
      (filter (λ x. is_lt (answer x)) (front ++ x ∷ back))) (ap is_lt before.0)
      ∙ ap (λ rest. y ∷ rest) (below-tied front x back before.1 ties behind)

  pub above-tied : (front : List X) (x : X) (back : List X) → AllLess front → answer x ≡ Equal → AllGreater back
      → filter (λ x. is_gt (answer x)) (front ++ x ∷ back) ≡ back
  above-tied [] x back before ties behind =
      ap (λ b. cond b (x ∷ filter (λ x. is_gt (answer x)) back) (filter (λ x. is_gt (answer x)) back)) (ap is_gt ties)
      ∙ filter-all (λ x. is_gt (answer x)) back
      (All-weaker (λ x. answer x ≡ Greater) (λ x. is_gt (answer x) ≡ true) (λ x h. ap is_gt h) back behind)
  above-tied (y ∷ front) x back before ties behind =
      ap (λ b. cond b (y ∷ filter (λ x. is_gt (answer x)) (front ++ x ∷ back))
      (filter (λ x. is_gt (answer x)) (front ++ x ∷ back))) (ap is_gt before.0)
      ∙ above-tied front x back before.1 ties behind

  -- an element put over one that ties with it
  pub put-StandsAt : {list : List X} {place : ℕ} (at : StandsAt answer list place) (element : X)
      → set list place element ≡ filter (λ x. is_lt (answer x)) list ++ element ∷ filter (λ x. is_gt (answer x)) list
  put-StandsAt {list} {place} at element =
      let parts = at.parts in
      ap (λ xs. set xs place element) parts ∙ set_at at.front at.element at.back element place at.length_front
      ∙ sym (ap (λ xs. xs ++ element ∷ at.back)
      (ap (filter (λ x. is_lt (answer x))) parts ∙ below-tied at.front at.element at.back at.before at.ties at.behind))
      ∙ sym (ap (λ xs. filter (λ x. is_lt (answer x)) list ++ element ∷ xs)
      (ap (filter (λ x. is_gt (answer x))) parts ∙ above-tied at.front at.element at.back at.before at.ties at.behind))

  -- an element inserted where none ties with it
  pub put-BelongsAt : {list : List X} {place : ℕ} (at : BelongsAt answer list place) (element : X)
      → insert list place element ≡ filter (λ x. is_lt (answer x)) list ++ element ∷ filter (λ x. is_gt (answer x)) list
  put-BelongsAt {list} {place} at element =
      let parts = at.parts in
      ap (λ xs. insert xs place element) parts
      ∙ ap (λ xs. xs ++ element ∷ drop place (at.front ++ at.back)) (take_at at.front at.back place at.length_front)
      ∙ ap (λ xs. at.front ++ element ∷ xs) (drop_at at.front at.back place at.length_front)
      ∙ sym (ap (λ xs. xs ++ element ∷ at.back)
      (ap (filter (λ x. is_lt (answer x))) parts ∙ below-front at.front at.back at.before at.behind))
      ∙ sym (ap (λ xs. filter (λ x. is_lt (answer x)) list ++ element ∷ xs)
      (ap (filter (λ x. is_gt (answer x))) parts ∙ above-back at.front at.back at.before at.behind))

  prefix-front : (front back : List X) → AllLess front
      → prefix_len (λ x. not (is_eq (answer x))) (front ++ back) ≡ length front + prefix_len
      (λ x. not (is_eq (answer x))) back
  prefix-front [] back before = omega arith
  prefix-front (x ∷ front) back before =
      ap (λ b. cond (not b) (1 + prefix_len (λ x. not (is_eq (answer x))) (front ++ back)) 0) (ap is_eq before.0)
      ∙ omega (arith, prefix-front front back before.1)

  prefix-back : (back : List X) → AllGreater back → prefix_len (λ x. not (is_eq (answer x))) back ≡ length back
  prefix-back [] behind = refl
  prefix-back (x ∷ back) behind =
      ap (λ b. cond (not b) (1 + prefix_len (λ x. not (is_eq (answer x))) back) 0) (ap is_eq behind.0)
      ∙ omega (arith, prefix-back back behind.1)

  pub position-StandsAt : {list : List X} {place : ℕ} → StandsAt answer list place
      → position (λ x. is_eq (answer x)) list ≡ Some place
  position-StandsAt {list} {place} at =
      let front = at.front in
      let rest = at.element ∷ at.back in
      let stops : prefix_len (λ x. not (is_eq (answer x))) rest ≡ 0 =
      ap (λ b. cond (not b) (1 + prefix_len (λ x. not (is_eq (answer x))) at.back) 0) (ap is_eq at.ties) in
      let counted = prefix-front front rest at.before in
      let is : prefix_len (λ x. not (is_eq (answer x))) (front ++ rest) ≡ place =
      omega (arith, counted, stops, at.length_front) in
      let total = length-append front rest in
      let short : place < length (front ++ rest) = omega (arith, total, at.length_front) in
      ap (position (λ x. is_eq (answer x))) at.parts
      ∙ ap (λ n. cond (nat_lt n (length (front ++ rest))) (Some n) None) is
      ∙ ap (λ b. cond b (Some place) None) (lt-ltb place (length (front ++ rest)) short)

  pub position-BelongsAt : {list : List X} {place : ℕ} → BelongsAt answer list place
      → position (λ x. is_eq (answer x)) list ≡ None
  position-BelongsAt {list} {place} at =
      let all = at.front ++ at.back in
      let total = length-append at.front at.back in
      let is : prefix_len (λ x. not (is_eq (answer x))) all ≡ length all =
      omega (arith, prefix-front at.front at.back at.before, prefix-back at.back at.behind, total) in
      ap (position (λ x. is_eq (answer x))) at.parts
      ∙ ap (λ n. cond (nat_lt n (length all)) (Some n) None) is
      ∙ ap (λ b. cond b (Some (length all)) None) (le-ltb (length all) (length all) (omega arith))

pub lt-Less : (o : Ordering) → is_lt o ≡ true → o ≡ Less
lt-Less Less h = refl
lt-Less Equal h = cc
lt-Less Greater h = cc

pub gt-Greater : (o : Ordering) → is_gt o ≡ true → o ≡ Greater
gt-Greater Less h = cc
gt-Greater Equal h = cc
gt-Greater Greater h = refl

-- ---- the search

module _ {K : Type 0} {cmp : K → K → Ordering} (order : IsTotalOrder cmp) where
  module _ {X : Type 0} (key : X → K) where
    -- what a binary search asks of the list
    pub IsSortedBy-strictly : (xs : List X) → IsStrictlySortedBy (on key cmp) xs
        → IsSortedBy (λ a b. is_lt (cmp (key a) (key b))) xs
    unfolding IsStrictlySortedBy
    IsSortedBy-strictly [] rising k d ge lt = absurd (omega arith)
    IsSortedBy-strictly (x ∷ []) rising k d ge lt = absurd (omega arith)
    IsSortedBy-strictly (x ∷ y ∷ xs) rising zero d ge lt =
        ap is_lt (order.antisymm (key y) (key x) ∙ ap ordering_reverse rising.0.0)
    IsSortedBy-strictly (x ∷ y ∷ xs) rising (suc k) d ge lt =
        rw add-one (rw add-one at (IsSortedBy-strictly (y ∷ xs) rising.1 k d (omega arith) (omega arith)))

    pub found : (sought : K) (xs : List X) (place : ℕ) → IsStrictlySortedBy (on key cmp) xs → place < length xs
        → HoldsAt (λ x. cmp (key x) sought ≡ Equal) xs place → StandsAt (λ x. cmp (key x) sought) xs place
    unfolding IsStrictlySortedBy
    found sought [] place rising lt equal = absurd (omega arith)
    found sought (x ∷ xs) zero rising lt equal = record {
      front = [];
      element = x;
      back = xs;
      parts = refl;
      length_front = refl;
      before = tt;
      ties = equal x;
      behind =
          All-weaker (λ y. cmp (key x) (key y) ≡ Less) (λ y. cmp (key y) sought ≡ Greater)
          (λ y before. order.antisymm (key y) sought
          ∙ ap ordering_reverse (sym (order.congr (key x) sought (key y) (equal x)) ∙ before))
          xs rising.0;
    }
    found sought (x ∷ xs) (suc place) rising lt equal =
        let rest = found sought xs place rising.1 (omega arith) equal in
        let parted = subst (AllByRecursion (λ y. cmp (key x) (key y) ≡ Less)) rest.parts rising.0 in
        let here : cmp (key x) (key rest.element) ≡ Less =
        (All-back (λ y. cmp (key x) (key y) ≡ Less) rest.front (rest.element ∷ rest.back) parted).0 in
        record {
          front = x ∷ rest.front;
          element = rest.element;
          back = rest.back;
          parts = ap (λ others. x ∷ others) rest.parts;
          length_front = ap suc rest.length_front;
          before = (sym (alike_right order (key rest.element) sought (key x) rest.ties) ∙ here, rest.before);
          ties = rest.ties;
          behind = rest.behind;
        }

    absent : (sought : K) (xs : List X) (place : ℕ) → place ≤ length xs
        → IsPartitionPoint (λ x. cmp (key x) sought ≡ Less) (λ x. cmp (key x) sought ≡ Greater) xs place
        → BelongsAt (λ x. cmp (key x) sought) xs place
    absent sought xs place le parted = record {
      front = take place xs;
      back = drop place xs;
      parts = sym (take-append-drop place xs);
      length_front = length-take-le place xs le;
      before = recursion_from_All (λ x. cmp (key x) sought ≡ Less) (take place xs) (λ k d lt.
          let short = length-take-le place xs le in
          let here : k < place = omega arith in
          subst (λ x. cmp (key x) sought ≡ Less) (sym (get_or-take place xs k d here))
          (parted.0 k d (omega arith) here));
      behind = recursion_from_All (λ x. cmp (key x) sought ≡ Greater) (drop place xs) (λ k d lt.
          let fits = length-drop place xs in
          let there : place + k < length xs = omega arith in
          subst (λ x. cmp (key x) sought ≡ Greater) (sym (get_or-drop place xs k d))
          (parted.1 (place + k) d (omega arith) there));
    }

    pub searched : (sought : K) (xs : List X) → IsStrictlySortedBy (on key cmp) xs → (r : Result ℕ ℕ)
        → IsSearchInRange r (length xs)
        → IsBinarySearchResult (λ x. cmp (key x) sought) xs r → IfOk r (StandsAt (λ x. cmp (key x) sought) xs)
        × IfErr r (BelongsAt (λ x. cmp (key x) sought) xs)
    searched sought xs rising (Ok place) range equal = (found sought xs place rising range equal, tt)
    searched sought xs rising (Err place) range parted = (
      tt,
      absent sought xs place range
          (parted (searchable_from_sorted order key xs sought (IsSortedBy-strictly xs rising))),
    )

  -- ---- a put keeps the list rising

  pub strictly-append : (xs ys : List K) → IsStrictlySortedBy cmp xs → IsStrictlySortedBy cmp ys
      → AllByRecursion (λ x. AllByRecursion (λ y. cmp x y ≡ Less) ys) xs → IsStrictlySortedBy cmp (xs ++ ys)
  unfolding IsStrictlySortedBy
  strictly-append [] ys rising more apart = more
  strictly-append (x ∷ xs) ys rising more apart =
      (All-append (λ y. cmp x y ≡ Less) xs ys rising.0 apart.0, strictly-append xs ys rising.1 more apart.1)

  pub put-rises : (x : K) (xs : List K) → IsStrictlySortedBy cmp xs → IsStrictlySortedBy cmp (put cmp x xs)
  unfolding IsStrictlySortedBy
  put-rises x xs rising =
      let front = filter (λ y. is_lt (cmp y x)) xs in
      let back = filter (λ y. is_gt (cmp y x)) xs in
      let before : AllByRecursion (λ y. cmp y x ≡ Less) front =
      All-passing (λ y. cmp y x ≡ Less) (λ y. is_lt (cmp y x)) (λ y h. lt-Less (cmp y x) h) xs in
      let behind : AllByRecursion (λ y. cmp x y ≡ Less) back =
      All-passing (λ y. cmp x y ≡ Less) (λ y. is_gt (cmp y x))
      (λ y h. order.antisymm x y ∙ ap ordering_reverse (gt-Greater (cmp y x) h)) xs in
      strictly-append front (x ∷ back) (IsStrictlySortedBy-filter cmp (λ y. is_lt (cmp y x)) xs rising)
      (behind, IsStrictlySortedBy-filter cmp (λ y. is_gt (cmp y x)) xs rising)
      (All-weaker (λ y. cmp y x ≡ Less) (λ y. AllByRecursion (λ z. cmp y z ≡ Less) (x ∷ back))
      (λ y here. (
        here,
        All-weaker (λ z. cmp x z ≡ Less) (λ z. cmp y z ≡ Less) (λ z there. order.trans y x z here there)
            back behind,
      ))
      front before)
