-- A list that rises by a total order is known by what it has at each place.
use Rattle.std.proofs.Common.{◌≡◌, Bool, true, false, cond, List, [], ◌∷◌, ◌++◌, refl, sym, ap, ◌∙◌}
use Rattle.std.specs.declared.cmp.Ordering.{Ordering}
use Rattle.std.specs.declared.cmp.Ordering.TheVariants.{Less, Equal, Greater}
use Rattle.std.specs.Cmp.{IsTotalOrder}
use Rattle.std.specs.List.{AllByRecursion, filter}
use Rattle.std.specs.List.Sorted.{IsStrictlySortedBy}
use Rattle.std.specs.Ordering.{is_lt, is_gt, is_eq, ordering_reverse}
use Rattle.std.proofs.lemmas.Bool.{true≢false}
use Rattle.std.proofs.lemmas.Cmp.{tied_itself, tied_back}
use Rattle.std.proofs.lemmas.List.Elements.{filter-append}
use Rattle.bucket_store.specs.Order.{put}
use Rattle.bucket_store.proofs.Lists.{All-weaker, filter-none}
use Rattle.app_registry.specs.Rising.{placed, rising}
use Rattle.desk_state.proofs.Filters.{filter-within, filter-outside}

Some-not-nil : {X : Type 0} (x : X) (xs : List X) → x ∷ xs ≡ [] → ⊥
Some-not-nil x xs h = cc

heads : {X : Type 0} (x y : X) → x ∷ [] ≡ y ∷ [] → x ≡ y
heads x y h = cc

pub eq-tied : (o : Ordering) → is_eq o ≡ true → o ≡ Equal
eq-tied Less h = cc
eq-tied Equal h = refl
eq-tied Greater h = cc

append-none : {X : Type 0} (xs : List X) → xs ++ [] ≡ xs
append-none [] = refl
append-none (x ∷ xs) = ap (λ rest. x ∷ rest) (append-none xs)

module _ {X : Type 0} {R : X → X → Ordering} (order : IsTotalOrder R) where
  flipped : (x y : X) (o : Ordering) → R x y ≡ o → R y x ≡ ordering_reverse o
  flipped x y o is = order.antisymm y x ∙ ap ordering_reverse is

  later-none : (x : X) (xs : List X) → AllByRecursion (λ (y : X). R x y ≡ Less) xs → (place : X) (o : Ordering) → R place x ≡ o
      → is_gt o ≡ false → filter (λ (y : X). is_eq (R y place)) xs ≡ []
  later-none x xs later place o is up =
      filter-none (λ (y : X). is_eq (R y place)) xs
      (All-weaker (λ (y : X). R x y ≡ Less) (λ (y : X). is_eq (R y place) ≡ false) (λ y after. behind o is up y after) xs later)
    where
      behind : (o : Ordering) → R place x ≡ o → is_gt o ≡ false → (y : X) → R x y ≡ Less → is_eq (R y place) ≡ false
      behind Less is up y after = ap is_eq (flipped place y Less (order.trans place x y is after))
      behind Equal is up y after = ap is_eq (flipped place y Less (order.congr place x y is ∙ after))
      behind Greater is up y after = absurd (true≢false up)

  at-head : (x : X) (xs : List X) → AllByRecursion (λ (y : X). R x y ≡ Less) xs → (place : X) → R x place ≡ Equal
      → filter (λ (y : X). is_eq (R y place)) (x ∷ xs) ≡ x ∷ []
  at-head x xs later place tied =
      ap (λ b. cond b (x ∷ filter (λ (y : X). is_eq (R y place)) xs) (filter (λ (y : X). is_eq (R y place)) xs)) (ap is_eq tied)
      ∙ ap (λ rest. x ∷ rest) (later-none x xs later place Equal (tied_back order x place tied) refl)

  before-all : (x : X) (xs : List X) → AllByRecursion (λ (y : X). R x y ≡ Less) xs → (place : X) → R place x ≡ Less
      → filter (λ (y : X). is_eq (R y place)) (x ∷ xs) ≡ []
  before-all x xs later place less =
      ap (λ b. cond b (x ∷ filter (λ (y : X). is_eq (R y place)) xs) (filter (λ (y : X). is_eq (R y place)) xs)) (ap is_eq (flipped place x Less less))
      ∙ later-none x xs later place Less less refl

  -- what both have at each place
  abbrev pub SameAtEach : List X → List X → Type 0
  SameAtEach xs ys = (place : X) → filter (λ (y : X). is_eq (R y place)) xs ≡ filter (λ (y : X). is_eq (R y place)) ys

  tails : (x y : X) (xs ys : List X) → x ≡ y → AllByRecursion (λ (z : X). R x z ≡ Less) xs
      → AllByRecursion (λ (z : X). R y z ≡ Less) ys
      → ((place : X) → filter (λ (z : X). is_eq (R z place)) (x ∷ xs) ≡ filter (λ (z : X). is_eq (R z place)) (y ∷ ys))
      → (place : X) → filter (λ (z : X). is_eq (R z place)) xs ≡ filter (λ (z : X). is_eq (R z place)) ys
  tails x y xs ys head before behind same place = parts (R x place) refl
    where
      apart : (o : Ordering) → R x place ≡ o → is_eq o ≡ false
          → filter (λ (z : X). is_eq (R z place)) xs ≡ filter (λ (z : X). is_eq (R z place)) ys
      apart o is not_equal =
          ap (λ b. cond b (x ∷ filter (λ (z : X). is_eq (R z place)) xs) (filter (λ (z : X). is_eq (R z place)) xs)) (sym (ap is_eq is ∙ not_equal))
          ∙ same place
          ∙ ap (λ b. cond b (y ∷ filter (λ (z : X). is_eq (R z place)) ys) (filter (λ (z : X). is_eq (R z place)) ys))
          (ap (λ (z : X). is_eq (R z place)) (sym head) ∙ ap is_eq is ∙ not_equal)

      parts : (o : Ordering) → R x place ≡ o
          → filter (λ (z : X). is_eq (R z place)) xs ≡ filter (λ (z : X). is_eq (R z place)) ys
      parts Equal is =
          later-none x xs before place Equal (tied_back order x place is) refl
          ∙ sym (later-none y ys behind place Equal (ap (R place) (sym head) ∙ tied_back order x place is) refl)
      parts Less is = apart Less is refl
      parts Greater is = apart Greater is refl

  pub known : (xs ys : List X) → IsStrictlySortedBy R xs → IsStrictlySortedBy R ys
      → ((place : X) → filter (λ (y : X). is_eq (R y place)) xs ≡ filter (λ (y : X). is_eq (R y place)) ys) → xs ≡ ys
  unfolding IsStrictlySortedBy
  known [] [] rise more same = refl
  known [] (y ∷ ys) rise more same =
      absurd (Some-not-nil y [] (sym (at-head y ys more.0 y (tied_itself order y)) ∙ sym (same y)))
  known (x ∷ xs) [] rise more same =
      absurd (Some-not-nil x [] (sym (at-head x xs rise.0 x (tied_itself order x)) ∙ same x))
  known (x ∷ xs) (y ∷ ys) rise more same =
      parts (λ head. known xs ys rise.1 more.1 (tails x y xs ys head rise.0 more.0 same)) (R x y) refl
    where
      parts : (x ≡ y → xs ≡ ys) → (o : Ordering) → R x y ≡ o → x ∷ xs ≡ y ∷ ys
      parts rest Less is =
          absurd (Some-not-nil x [] (sym (at-head x xs rise.0 x (tied_itself order x)) ∙ same x ∙ before-all y ys more.0 x is))
      parts rest Greater is =
          absurd (Some-not-nil y [] (sym (at-head y ys more.0 y (tied_itself order y)) ∙ sym (same y)
          ∙ before-all x xs rise.0 y (flipped x y Greater is)))
      parts rest Equal is =
          let head : x ≡ y = heads x y (sym (at-head x xs rise.0 y is) ∙ same y ∙ at-head y ys more.0 y (tied_itself order y)) in
          λ i. head i ∷ rest head i

  -- ---- an element between those before it and those behind it

  between-at : (above : X → Bool) (new place : X) (list : List X) (o : Ordering) → R place new ≡ o
      → ((y : X) → R y new ≡ o → above y ≡ is_gt o)
      → filter (λ (y : X). is_eq (R y place)) (filter (λ (y : X). is_lt (R y new)) list ++ new ∷ filter above list)
      ≡ cond (is_eq o) (new ∷ []) (filter (λ (y : X). is_eq (R y place)) list)
  between-at above new place list o is behind =
      filter-append (λ (y : X). is_eq (R y place)) (filter (λ (y : X). is_lt (R y new)) list) (new ∷ filter above list) ∙ parts o is behind
    where
      tied : (o : Ordering) → R place new ≡ o → (y : X) → is_eq (R y place) ≡ true → R y new ≡ o
      tied o is y here = order.congr y place new (eq-tied (R y place) here) ∙ is

      parts : (o : Ordering) → R place new ≡ o → ((y : X) → R y new ≡ o → above y ≡ is_gt o)
          → filter (λ (y : X). is_eq (R y place)) (filter (λ (y : X). is_lt (R y new)) list)
          ++ cond (is_eq (R new place)) (new ∷ filter (λ (y : X). is_eq (R y place)) (filter above list)) (filter (λ (y : X). is_eq (R y place)) (filter above list))
          ≡ cond (is_eq o) (new ∷ []) (filter (λ (y : X). is_eq (R y place)) list)
      parts Less is behind =
          (λ i. filter-within (λ (y : X). is_eq (R y place)) (λ (y : X). is_lt (R y new)) (λ y here. ap is_lt (tied Less is y here)) list i
          ++ cond (is_eq (flipped place new Less is i)) (new ∷ none i) (none i))
          ∙ append-none (filter (λ (y : X). is_eq (R y place)) list)
        where
          none : filter (λ (y : X). is_eq (R y place)) (filter above list) ≡ []
          none = filter-outside (λ (y : X). is_eq (R y place)) above (λ y here. behind y (tied Less is y here)) list
      parts Equal is behind =
          (λ i. filter-outside (λ (y : X). is_eq (R y place)) (λ (y : X). is_lt (R y new)) (λ y here. ap is_lt (tied Equal is y here)) list i
          ++ cond (is_eq (flipped place new Equal is i)) (new ∷ none i) (none i))
        where
          none : filter (λ (y : X). is_eq (R y place)) (filter above list) ≡ []
          none = filter-outside (λ (y : X). is_eq (R y place)) above (λ y here. behind y (tied Equal is y here)) list
      parts Greater is behind =
          (λ i. filter-outside (λ (y : X). is_eq (R y place)) (λ (y : X). is_lt (R y new)) (λ y here. ap is_lt (tied Greater is y here)) list i
          ++ cond (is_eq (flipped place new Greater is i)) (new ∷ all i) (all i))
        where
          all : filter (λ (y : X). is_eq (R y place)) (filter above list) ≡ filter (λ (y : X). is_eq (R y place)) list
          all = filter-within (λ (y : X). is_eq (R y place)) above (λ y here. behind y (tied Greater is y here)) list

  pub put-at : (new place : X) (list : List X)
      → filter (λ (y : X). is_eq (R y place)) (put R new list)
      ≡ cond (is_eq (R place new)) (new ∷ []) (filter (λ (y : X). is_eq (R y place)) list)
  put-at new place list = between-at (λ (y : X). is_gt (R y new)) new place list (R place new) refl (λ y is. ap is_gt is)

  pub placed-at : (new place : X) (list : List X)
      → filter (λ (y : X). is_eq (R y place)) (placed R new list)
      ≡ cond (is_eq (R place new)) (new ∷ []) (filter (λ (y : X). is_eq (R y place)) list)
  placed-at new place list =
      between-at (λ (y : X). is_lt (R new y)) new place list (R place new) refl (λ y is. ap is_lt (flipped y new (R place new) is) ∙ turned (R place new))
    where
      turned : (o : Ordering) → is_lt (ordering_reverse o) ≡ is_gt o
      turned Less = refl
      turned Equal = refl
      turned Greater = refl

  -- the first element that ties with the place
  abbrev pub first_at : X → List X → List X
  first_at place [] = []
  first_at place (x ∷ xs) = cond (is_eq (R place x)) (x ∷ []) (first_at place xs)

  pub rising-at : (place : X) (list : List X) → filter (λ (y : X). is_eq (R y place)) (rising R list) ≡ first_at place list
  rising-at place [] = refl
  rising-at place (x ∷ xs) =
      placed-at x place (rising R xs) ∙ ap (λ rest. cond (is_eq (R place x)) (x ∷ []) rest) (rising-at place xs)
