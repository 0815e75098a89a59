-- Filters over filters, and the three parts of a list that rises past a place.
use Rattle.std.proofs.Common.{◌≡◌, Bool, true, false, cond, ◌||◌, List, [], ◌∷◌, ◌++◌, refl, sym, ap, ◌∙◌, subst}
use Rattle.std.specs.declared.cmp.Ordering.{Ordering}
use Rattle.std.specs.declared.cmp.Ordering.TheVariants.{Less, Equal, Greater}
use Rattle.std.specs.Cmp.{IsTotalOrder}
use Rattle.std.specs.List.{AllByRecursion, filter, list_any}
use Rattle.std.specs.List.Sorted.{IsStrictlySortedBy}
use Rattle.std.specs.Ordering.{is_lt, is_gt, is_eq, ordering_reverse}
use Rattle.std.proofs.lemmas.Bool.{true≢false}

-- whether the second answer may come behind the first
abbrev pub up : Ordering → Ordering → Bool
up Less later = true
up Equal Less = false
up Equal Equal = true
up Equal Greater = true
up Greater Less = false
up Greater Equal = false
up Greater Greater = true

behind-equal : (o : Ordering) → up Equal o ≡ true → is_lt o ≡ false
behind-equal Less h = absurd (true≢false (sym h))
behind-equal Equal h = refl
behind-equal Greater h = refl

behind-greater : (o : Ordering) → up Greater o ≡ true → o ≡ Greater
behind-greater Less h = absurd (true≢false (sym h))
behind-greater Equal h = absurd (true≢false (sym h))
behind-greater Greater h = refl

module _ {X : Type 0} where
  -- what a filter keeps that keeps all that the other does
  pub filter-within : (test kept : X → Bool) → ((x : X) → test x ≡ true → kept x ≡ true) → (xs : List X)
      → filter test (filter kept xs) ≡ filter test xs
  filter-within test kept both [] = refl
  filter-within test kept both (x ∷ xs) = parts (filter-within test kept both xs) (kept x) (test x) refl refl
    where
      parts : filter test (filter kept xs) ≡ filter test xs → (keeps passes : Bool) → kept x ≡ keeps → test x ≡ passes
          → filter test (cond keeps (x ∷ filter kept xs) (filter kept xs)) ≡ cond passes (x ∷ filter test xs) (filter test xs)
      parts rest true true is has = ap (λ b. cond b (x ∷ filter test (filter kept xs)) (filter test (filter kept xs))) has ∙ ap (λ list. x ∷ list) rest
      parts rest true false is has = ap (λ b. cond b (x ∷ filter test (filter kept xs)) (filter test (filter kept xs))) has ∙ rest
      parts rest false true is has = absurd (true≢false (sym (both x has) ∙ is))
      parts rest false false is has = rest

  -- what a filter keeps that keeps nothing that the other does
  pub filter-outside : (test kept : X → Bool) → ((x : X) → test x ≡ true → kept x ≡ false) → (xs : List X)
      → filter test (filter kept xs) ≡ []
  filter-outside test kept both [] = refl
  filter-outside test kept both (x ∷ xs) = parts (filter-outside test kept both xs) (kept x) (test x) refl refl
    where
      parts : filter test (filter kept xs) ≡ [] → (keeps passes : Bool) → kept x ≡ keeps → test x ≡ passes
          → filter test (cond keeps (x ∷ filter kept xs) (filter kept xs)) ≡ []
      parts rest true true is has = absurd (true≢false (sym is ∙ both x has))
      parts rest true false is has = ap (λ b. cond b (x ∷ filter test (filter kept xs)) (filter test (filter kept xs))) has ∙ rest
      parts rest false passes is has = rest

  -- the order of two filters is nothing
  pub filter-turn : (test other : X → Bool) (xs : List X) → filter test (filter other xs) ≡ filter other (filter test xs)
  filter-turn test other [] = refl
  filter-turn test other (x ∷ xs) = parts (filter-turn test other xs) (test x) (other x) refl refl
    where
      parts : filter test (filter other xs) ≡ filter other (filter test xs) → (a b : Bool) → test x ≡ a → other x ≡ b
          → filter test (cond b (x ∷ filter other xs) (filter other xs)) ≡ filter other (cond a (x ∷ filter test xs) (filter test xs))
      parts rest true true is has =
          ap (λ b. cond b (x ∷ filter test (filter other xs)) (filter test (filter other xs))) is
          ∙ ap (λ list. x ∷ list) rest
          ∙ ap (λ b. cond b (x ∷ filter other (filter test xs)) (filter other (filter test xs))) (sym has)
      parts rest true false is has =
          rest ∙ ap (λ b. cond b (x ∷ filter other (filter test xs)) (filter other (filter test xs))) (sym has)
      parts rest false true is has =
          ap (λ b. cond b (x ∷ filter test (filter other xs)) (filter test (filter other xs))) is ∙ rest
      parts rest false false is has = rest

  -- no element of a part passes a test that none of the whole does
  pub none-filter : (test kept : X → Bool) (xs : List X) → list_any test xs ≡ false → list_any test (filter kept xs) ≡ false
  none-filter test kept [] none = refl
  none-filter test kept (x ∷ xs) none = parts (test x) (kept x) refl none (none-filter test kept xs)
    where
      parts : (a b : Bool) → test x ≡ a → (a || list_any test xs) ≡ false
          → (list_any test xs ≡ false → list_any test (filter kept xs) ≡ false)
          → list_any test (cond b (x ∷ filter kept xs) (filter kept xs)) ≡ false
      parts true b is h rest = absurd (true≢false h)
      parts false true is h rest = ap (λ a. a || list_any test (filter kept xs)) is ∙ rest h
      parts false false is h rest = rest h

  -- ---- the parts of a list that rises past a place

  -- the answers rise
  abbrev pub AllUp : (X → Ordering) → List X → Type 0
  AllUp answer [] = Unit {0}
  AllUp answer (x ∷ xs) = AllByRecursion (λ y. up (answer x) (answer y) ≡ true) xs × AllUp answer xs

  nothing : (test : X → Bool) (answer : X → Ordering) (o : Ordering) → ((p : Ordering) → up o p ≡ true → (x : X) → answer x ≡ p → test x ≡ false)
      → (xs : List X) → AllByRecursion (λ y. up o (answer y) ≡ true) xs → filter test xs ≡ []
  nothing test answer o never [] all = refl
  nothing test answer o never (x ∷ xs) all =
      ap (λ b. cond b (x ∷ filter test xs) (filter test xs)) (never (answer x) all.0 x refl) ∙ nothing test answer o never xs all.1

  joined : (x : X) (xs below level above : List X) (o : Ordering) → (o ≡ Equal → below ≡ []) → (o ≡ Greater → below ≡ [])
      → (o ≡ Greater → level ≡ []) → below ++ (level ++ above) ≡ xs
      → cond (is_lt o) (x ∷ below) below ++ (cond (is_eq o) (x ∷ level) level ++ cond (is_gt o) (x ∷ above) above) ≡ x ∷ xs
  joined x xs below level above Less equal greater no_level rest = ap (λ list. x ∷ list) rest
  joined x xs below level above Equal equal greater no_level rest =
      let none : below ≡ [] = equal refl in
      ap (λ list. list ++ x ∷ (level ++ above)) none
      ∙ ap (λ list. x ∷ (list ++ (level ++ above))) (sym none)
      ∙ ap (λ list. x ∷ list) rest
  joined x xs below level above Greater equal greater no_level rest =
      let none : below ≡ [] = greater refl in
      let nolevel : level ≡ [] = no_level refl in
      (λ i. none i ++ (nolevel i ++ x ∷ above))
      ∙ ap (λ list. x ∷ list) (λ i. sym none i ++ (sym nolevel i ++ above))
      ∙ ap (λ list. x ∷ list) rest

  pub three-parts : (answer : X → Ordering) (xs : List X) → AllUp answer xs
      → filter (λ x. is_lt (answer x)) xs ++ (filter (λ x. is_eq (answer x)) xs ++ filter (λ x. is_gt (answer x)) xs) ≡ xs
  three-parts answer [] all = refl
  three-parts answer (x ∷ xs) all =
      joined x xs (filter (λ (y : X). is_lt (answer y)) xs) (filter (λ (y : X). is_eq (answer y)) xs) (filter (λ (y : X). is_gt (answer y)) xs)
      (answer x)
      (λ is. nothing (λ (y : X). is_lt (answer y)) answer Equal (λ p h y at. ap is_lt at ∙ behind-equal p h) xs (from is))
      (λ is. nothing (λ (y : X). is_lt (answer y)) answer Greater (λ p h y at. ap is_lt (at ∙ behind-greater p h)) xs (from is))
      (λ is. nothing (λ (y : X). is_eq (answer y)) answer Greater (λ p h y at. ap is_eq (at ∙ behind-greater p h)) xs (from is))
      (three-parts answer xs all.1)
    where
      from : {o : Ordering} → answer x ≡ o → AllByRecursion (λ (y : X). up o (answer y) ≡ true) xs
      from is = subst (λ o. AllByRecursion (λ (y : X). up o (answer y) ≡ true) xs) is all.0

  -- a list that rises by a total order rises past each element
  module _ {R : X → X → Ordering} (order : IsTotalOrder R) where
    pub up-through : (pivot x y : X) → R x y ≡ Less → up (R x pivot) (R y pivot) ≡ true
    up-through pivot x y less = at (R x pivot) refl
      where
        flipped : (o : Ordering) → R pivot y ≡ o → R y pivot ≡ ordering_reverse o
        flipped o is = order.antisymm y pivot ∙ ap ordering_reverse is

        at : (o : Ordering) → R x pivot ≡ o → up o (R y pivot) ≡ true
        at Less is = refl
        at Equal is = ap (up Equal) (flipped Less (sym (order.congr x pivot y is) ∙ less))
        at Greater is =
            ap (up Greater) (flipped Less (order.trans pivot x y (order.antisymm pivot x ∙ ap ordering_reverse is) less))

    pub rises-up : (pivot : X) (xs : List X) → IsStrictlySortedBy R xs → AllUp (λ x. R x pivot) xs
    unfolding IsStrictlySortedBy
    rises-up pivot [] rise = tt
    rises-up pivot (x ∷ xs) rise = (each xs rise.0, rises-up pivot xs rise.1)
      where
        each : (ys : List X) → AllByRecursion (λ (y : X). R x y ≡ Less) ys → AllByRecursion (λ (y : X). up (R x pivot) (R y pivot) ≡ true) ys
        each [] all = tt
        each (y ∷ ys) all = (up-through pivot x y all.0, each ys all.1)
