-- Facts about lists.
use Rattle.std.proofs.Common.{◌≡◌, ◌+◌, Bool, true, false, ◌&&◌, ◌||◌, List, [], ◌∷◌, ◌++◌, length, refl, sym, ap}
use Rattle.std.proofs.Common.{subst, ◌∙◌, arith, append_assoc, length-append}
use Rattle.std.specs.List.{AllByRecursion, list_any, list_all, flat_map, sum_by}
use mathlib.Core.Bool.{or-true}
use Rattle.std.proofs.lemmas.Bool.{true≢false, and_parts}
use Rattle.std.proofs.lemmas.List.Sums.{sum_by-append}
use Rattle.set_text.proofs.round.Tests.{neither}
use Rattle.bucket_store.proofs.Lists.{All-append}

-- an element that passes a test, with what holds of all
pub some-with : {X : Type 0} (test : X → Bool) (P : X → Type 0) (xs : List X) → list_any test xs ≡ true
    → AllByRecursion P xs
    → (x : X) × (test x ≡ true) × P x
some-with test P [] any all = absurd (true≢false (sym any))
some-with test P (x ∷ xs) any all = by (test x) refl any (λ rest. some-with test P xs rest all.1)
  where
    by : (b : Bool) → test x ≡ b → (b || list_any test xs) ≡ true
        → (list_any test xs ≡ true → (x : _) × (test x ≡ true) × P x)
        → (x : _) × (test x ≡ true) × P x
    by true is any rest = (x, is, all.0)
    by false is any rest = rest any

-- a fact of each element of the lists that are joined
pub flat-all : {X Y : Type 0} (P : Y → Type 0) (f : X → List Y) (xs : List X)
    → AllByRecursion (λ x. AllByRecursion P (f x)) xs
    → AllByRecursion P (flat_map f xs)
flat-all P f [] all = tt
flat-all P f (x ∷ xs) all = All-append P (f x) (flat_map f xs) all.0 (flat-all P f xs all.1)

pub length-flat : {X Y : Type 0} (f : X → List Y) (xs : List X) → length (flat_map f xs) ≡ sum_by (λ x. length (f x)) xs
length-flat f [] = refl
length-flat f (x ∷ xs) =
    let rest = length-flat f xs in
    let parts : length (f x ++ flat_map f xs) ≡ length (f x) + length (flat_map f xs) = length-append (f x)
    (flat_map f xs) in
    let sums : sum_by (λ x. length (f x)) (x ∷ xs) ≡ 0 + length (f x) + sum_by (λ x. length (f x)) xs =
    sum_by-append (λ x. length (f x)) (x ∷ []) xs in
    omega (arith, rest, parts, sums)

pub all-passes : {X : Type 0} (test : X → Bool) (xs : List X) → list_all test xs ≡ true
    → AllByRecursion (λ x. test x ≡ true) xs
all-passes test [] all = tt
all-passes test (x ∷ xs) all =
    let parts = and_parts (test x) (list_all test xs) all in (parts.0, all-passes test xs parts.1)

pub passes-all : {X : Type 0} (test : X → Bool) (xs : List X) → AllByRecursion (λ x. test x ≡ true) xs
    → list_all test xs ≡ true
passes-all test [] all = refl
passes-all test (x ∷ xs) all = passes-both (test x) (list_all test xs) all.0 (passes-all test xs all.1)
  where
    passes-both : (a b : Bool) → a ≡ true → b ≡ true → (a && b) ≡ true
    passes-both true b first second = second
    passes-both false b first second = absurd (true≢false (sym first))

pub none-passes : {X : Type 0} (test : X → Bool) (xs : List X) → list_any test xs ≡ false
    → AllByRecursion (λ x. test x ≡ false) xs
none-passes test [] none = tt
none-passes test (x ∷ xs) none =
    let parts = neither (test x) (list_any test xs) none in (parts.0, none-passes test xs parts.1)

-- each element is in its list
pub each-there : {X : Type 0} (test : X → X → Bool) → ((x : X) → test x x ≡ true) → (xs : List X)
    → AllByRecursion (λ x. list_any (test x) xs ≡ true) xs
each-there test own xs = from [] xs
  where
    any-here : (front : List _) (x : _) (back : List _) → list_any (test x) (front ++ x ∷ back) ≡ true
    any-here [] x back = ap (λ b. b || list_any (test x) back) (own x)
    any-here (y ∷ front) x back = ap (λ b. test x y || b) (any-here front x back) ∙ or-true (test x y)

    from : (front back : List _) → AllByRecursion (λ x. list_any (test x) (front ++ back) ≡ true) back
    from front [] = tt
    from front (x ∷ back) = (
      any-here front x back,
      subst (λ (list : List _). AllByRecursion (λ x. list_any (test x) list ≡ true) back)
          (append_assoc front (x ∷ []) back)
          (from (front ++ x ∷ []) back),
    )
