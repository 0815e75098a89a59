-- A change under one key is not seen by a test that no element of that key passes.
use Rattle.std.proofs.Common.{◌≡◌, Bool, true, false, not, cond, List, [], ◌∷◌, ◌++◌, refl, sym, ap, ◌∙◌}
use Rattle.std.specs.declared.cmp.Ordering.{Ordering}
use Rattle.std.specs.declared.cmp.Ordering.TheVariants.{Less, Equal, Greater}
use Rattle.std.specs.List.{filter, AllByRecursion}
use Rattle.std.specs.List.Sorted.{IsStrictlySortedBy}
use Rattle.std.specs.Ordering.{is_lt, is_gt, ordering_reverse}
use Rattle.std.specs.Cmp.{IsTotalOrder}
use Rattle.std.proofs.lemmas.Cmp.{tied_itself}
use Rattle.std.proofs.lemmas.List.Elements.{filter-append}
use Rattle.bucket_store.specs.Order.{put}
use Rattle.bucket_store.proofs.Lists.{All-weaker, filter-all, filter-none}

-- one element more, on both sides
one_more : {X : Type 0} (keeps : Bool) (y : X) (front back all : List X) → front ++ back ≡ all
    → cond keeps (y ∷ front) front ++ back ≡ cond keeps (y ∷ all) all
one_more true y front back all is = ap (λ rest. y ∷ rest) is
one_more false y front back all is = is

module _ {X : Type 0} {cmp : X → X → Ordering} (order : IsTotalOrder cmp) (test : X → Bool) (new : X)
    (unseen : (y : X) → cmp y new ≡ Equal → test y ≡ false) where
  abbrev before : List X → List X
  before list = filter (λ y. is_lt (cmp y new)) list

  abbrev behind : List X → List X
  behind list = filter (λ y. is_gt (cmp y new)) list

  flipped : (x y : X) (o : Ordering) → cmp x y ≡ o → cmp y x ≡ ordering_reverse o
  flipped x y o is = order.antisymm y x ∙ ap ordering_reverse is

  -- what stands behind an element that stands behind the new one
  all_behind : (y : X) → cmp y new ≡ Greater → (list : List X) → AllByRecursion (λ z. cmp y z ≡ Less) list
      → AllByRecursion (λ z. cmp z new ≡ Greater) list
  all_behind y is list later =
      All-weaker (λ z. cmp y z ≡ Less) (λ z. cmp z new ≡ Greater)
      (λ z less. flipped new z Less (order.trans new y z (flipped y new Greater is) less)) list later

  none_before : (list : List X) → AllByRecursion (λ z. cmp z new ≡ Greater) list → before list ≡ []
  none_before list all =
      filter-none (λ y. is_lt (cmp y new)) list
      (All-weaker (λ z. cmp z new ≡ Greater) (λ z. is_lt (cmp z new) ≡ false) (λ z is. ap is_lt is) list all)

  whole_behind : (list : List X) → AllByRecursion (λ z. cmp z new ≡ Greater) list → behind list ≡ list
  whole_behind list all =
      filter-all (λ y. is_gt (cmp y new)) list
      (All-weaker (λ z. cmp z new ≡ Greater) (λ z. is_gt (cmp z new) ≡ true) (λ z is. ap is_gt is) list all)

  both_sides : (list : List X) → IsStrictlySortedBy cmp list → filter test (before list) ++ filter test (behind list) ≡ filter test list
  unfolding IsStrictlySortedBy
  both_sides [] rise = refl
  both_sides (y ∷ ys) rise = by_place (both_sides ys rise.1) (cmp y new) refl where
    by_place : filter test (before ys) ++ filter test (behind ys) ≡ filter test ys → (o : Ordering) → cmp y new ≡ o
        → filter test (cond (is_lt o) (y ∷ before ys) (before ys)) ++ filter test (cond (is_gt o) (y ∷ behind ys) (behind ys))
        ≡ filter test (y ∷ ys)
    by_place rest Less is = one_more (test y) y (filter test (before ys)) (filter test (behind ys)) (filter test ys) rest
    by_place rest Equal is =
        rest ∙ ap (λ keeps. cond keeps (y ∷ filter test ys) (filter test ys)) (sym (unseen y is))
    by_place rest Greater is =
        let all = all_behind y is ys rise.0 in
        ap (λ front. filter test front ++ filter test (y ∷ behind ys)) (none_before ys all)
        ∙ ap (λ back. filter test (y ∷ back)) (whole_behind ys all)

  pub put-unseen : (list : List X) → IsStrictlySortedBy cmp list → filter test (put cmp new list) ≡ filter test list
  put-unseen list rise =
      filter-append test (before list) (new ∷ behind list)
      ∙ ap (λ keeps. filter test (before list) ++ cond keeps (new ∷ filter test (behind list)) (filter test (behind list)))
      (unseen new (tied_itself order new))
      ∙ both_sides list rise

-- elements that a test does not see, taken out
pub without-unseen : {X : Type 0} (test gone : X → Bool) → ((y : X) → gone y ≡ true → test y ≡ false) → (list : List X)
    → filter test (filter (λ y. not (gone y)) list) ≡ filter test list
without-unseen test gone unseen [] = refl
without-unseen {X} test gone unseen (y ∷ ys) = by_case (without-unseen test gone unseen ys) (gone y) refl where
  by_case : filter test (filter (λ y. not (gone y)) ys) ≡ filter test ys → (goes : Bool) → gone y ≡ goes
      → filter test (cond (not goes) (y ∷ filter (λ y. not (gone y)) ys) (filter (λ y. not (gone y)) ys)) ≡ filter test (y ∷ ys)
  by_case rest true is = rest ∙ ap (λ keeps. cond keeps (y ∷ filter test ys) (filter test ys)) (sym (unseen y is))
  by_case rest false is = ap (λ rest. cond (test y) (y ∷ rest) rest) rest
