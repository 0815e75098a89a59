-- Facts about tests, filters and all elements of a list.
use Rattle.std.proofs.Common.{◌≡◌, ◌<◌, ◌≤◌, Bool, true, false, not, cond, ◌||◌, List, [], ◌∷◌, ◌++◌, length, map, refl}
use Rattle.std.proofs.Common.{sym, ap, ◌∙◌, subst, arith}
use Rattle.std.proofs.lemmas.Bool.{true≢false}
use Rattle.std.specs.List.{AllByRecursion, filter, list_any}

pub All-weaker : {X : Type 0} (P Q : X → Type 0) → ((x : X) → P x → Q x) → (xs : List X) → AllByRecursion P xs
    → AllByRecursion Q xs
All-weaker P Q weaker [] all = tt
All-weaker P Q weaker (x ∷ xs) all = (weaker x all.0, All-weaker P Q weaker xs all.1)

pub All-both : {X : Type 0} (P Q : X → Type 0) (xs : List X) → AllByRecursion P xs → AllByRecursion Q xs
    → AllByRecursion (λ x. P x × Q x) xs
All-both P Q [] all more = tt
All-both P Q (x ∷ xs) all more = ((all.0, more.0), All-both P Q xs all.1 more.1)

pub All-filter : {X : Type 0} (P : X → Type 0) (test : X → Bool) (xs : List X) → AllByRecursion P xs
    → AllByRecursion P (filter test xs)
All-filter P test [] all = all
All-filter P test (x ∷ xs) all =
    let rest = All-filter P test xs all.1 in
    elim (test x) as (λ passes. AllByRecursion P (cond passes (x ∷ filter test xs) (filter test xs)))
    [ true ↦ (all.0, rest) | false ↦ rest ]

pub All-passing : {X : Type 0} (P : X → Type 0) (test : X → Bool) → ((x : X) → test x ≡ true → P x) → (xs : List X)
    → AllByRecursion P (filter test xs)
All-passing P test passing [] = tt
All-passing P test passing (x ∷ xs) = kept (test x) refl (All-passing P test passing xs)
  where
    kept : (passes : Bool) → test x ≡ passes → AllByRecursion P (filter test xs)
        → AllByRecursion P (cond passes (x ∷ filter test xs) (filter test xs))
    kept true is rest = (passing x is, rest)
    kept false is rest = rest

pub All-append : {X : Type 0} (P : X → Type 0) (xs ys : List X) → AllByRecursion P xs → AllByRecursion P ys
    → AllByRecursion P (xs ++ ys)
All-append P [] ys front back = back
All-append P (x ∷ xs) ys front back = (front.0, All-append P xs ys front.1 back)

pub All-front : {X : Type 0} (P : X → Type 0) (xs ys : List X) → AllByRecursion P (xs ++ ys) → AllByRecursion P xs
All-front P [] ys all = tt
All-front P (x ∷ xs) ys all = (all.0, All-front P xs ys all.1)

pub All-back : {X : Type 0} (P : X → Type 0) (xs ys : List X) → AllByRecursion P (xs ++ ys) → AllByRecursion P ys
All-back P [] ys all = all
All-back P (x ∷ xs) ys all = All-back P xs ys all.1

pub All-map : {X Y : Type 0} (P : Y → Type 0) (f : X → Y) (xs : List X) → AllByRecursion (λ x. P (f x)) xs
    → AllByRecursion P (map f xs)
All-map P f [] all = tt
All-map P f (x ∷ xs) all = (all.0, All-map P f xs all.1)

pub All-unmap : {X Y : Type 0} (P : Y → Type 0) (f : X → Y) (xs : List X) → AllByRecursion P (map f xs)
    → AllByRecursion (λ x. P (f x)) xs
All-unmap P f [] all = tt
All-unmap P f (x ∷ xs) all = (all.0, All-unmap P f xs all.1)

-- ---- what a filter keeps

pub filter-all : {X : Type 0} (test : X → Bool) (xs : List X) → AllByRecursion (λ x. test x ≡ true) xs
    → filter test xs ≡ xs
filter-all test [] all = refl
filter-all test (x ∷ xs) all =
    ap (λ b. cond b (x ∷ filter test xs) (filter test xs)) all.0 ∙ ap (λ rest. x ∷ rest) (filter-all test xs all.1)

pub filter-none : {X : Type 0} (test : X → Bool) (xs : List X) → AllByRecursion (λ x. test x ≡ false) xs
    → filter test xs ≡ []
filter-none test [] all = refl
filter-none test (x ∷ xs) all =
    ap (λ b. cond b (x ∷ filter test xs) (filter test xs)) all.0 ∙ filter-none test xs all.1

pub filter-same : {X : Type 0} (test other : X → Bool) (xs : List X) → AllByRecursion (λ x. test x ≡ other x) xs
    → filter test xs ≡ filter other xs
filter-same test other [] all = refl
filter-same test other (x ∷ xs) all =
    ap (λ b. cond b (x ∷ filter test xs) (filter test xs)) all.0
    ∙ ap (λ rest. cond (other x) (x ∷ rest) rest) (filter-same test other xs all.1)

pub filter-map : {X Y : Type 0} (test : Y → Bool) (f : X → Y) (xs : List X)
    → filter test (map f xs) ≡ map f (filter (λ x. test (f x)) xs)
filter-map test f [] = refl
filter-map test f (x ∷ xs) =
    ap (λ rest. cond (test (f x)) (f x ∷ rest) rest) (filter-map test f xs)
    ∙ (elim (test (f x)) as
    (λ b. cond b (f x ∷ map f (filter (λ x. test (f x)) xs)) (map f (filter (λ x. test (f x)) xs))
    ≡ map f (cond b (x ∷ filter (λ x. test (f x)) xs) (filter (λ x. test (f x)) xs)))
    [ true ↦ refl | false ↦ refl ])

-- ---- whether some element passes a test

-- what passes is kept by a second test that it passes too
pub any-filter : {X : Type 0} (test kept : X → Bool) → ((x : X) → test x ≡ true → kept x ≡ true) → (xs : List X)
    → list_any test xs ≡ true → list_any test (filter kept xs) ≡ true
any-filter test kept both [] any = any
any-filter test kept both (x ∷ xs) any = here (any-filter test kept both xs) (test x) refl any
  where
    later : (keeps : Bool) → list_any test (filter kept xs) ≡ true
        → list_any test (cond keeps (x ∷ filter kept xs) (filter kept xs)) ≡ true
    later true found = elim (test x) as
        (λ b. (b || list_any test (filter kept xs)) ≡ true) [ true ↦ refl | false ↦ found ]
    later false found = found

    here : (list_any test xs ≡ true → list_any test (filter kept xs) ≡ true) → (passes : Bool) → test x ≡ passes
        → (passes || list_any test xs) ≡ true
        → list_any test (cond (kept x) (x ∷ filter kept xs) (filter kept xs)) ≡ true
    here rest true is found =
        subst (λ keeps. list_any test (cond keeps (x ∷ filter kept xs) (filter kept xs)) ≡ true) (sym (both x is))
        (subst (λ b. (b || list_any test (filter kept xs)) ≡ true) (sym is) refl)
    here rest false is found = later (kept x) (rest found)

pub length-filter-≤ : {X : Type 0} (test : X → Bool) (xs : List X) → length (filter test xs) ≤ length xs
length-filter-≤ test [] = omega arith
length-filter-≤ test (x ∷ xs) =
    let rest = length-filter-≤ test xs in
    elim (test x) as (λ b. length (cond b (x ∷ filter test xs) (filter test xs)) ≤ length (x ∷ xs))
    [ true ↦ omega (arith, rest) | false ↦ omega (arith, rest) ]

-- a filter that leaves some element out makes the list shorter
pub length-filter-< : {X : Type 0} (test : X → Bool) (xs : List X) → list_any test xs ≡ true
    → length (filter (λ x. not (test x)) xs) < length xs
length-filter-< test [] any = absurd (true≢false (sym any))
length-filter-< test (x ∷ xs) any = here (length-filter-< test xs) (test x) any
  where
    here : (list_any test xs ≡ true → length (filter (λ x. not (test x)) xs) < length xs) → (passes : Bool)
        → (passes || list_any test xs) ≡ true
        → length (cond (not passes) (x ∷ filter (λ x. not (test x)) xs) (filter (λ x. not (test x)) xs)) < length
        (x ∷ xs)
    here rest true found = omega (arith, length-filter-≤ (λ x. not (test x)) xs)
    here rest false found = omega (arith, rest found)
