-- Fronts of one list.
use Rattle.std.proofs.Common.{◌≡◌, ℕ, ◌≤◌, List, [], ◌∷◌, length, refl, arith, subst, Bool, true, false}
use Rattle.std.specs.Bool.{OnTrue}
use Rattle.std.proofs.lemmas.Bool.Decides.{nat_tests}
use lib.Dec.{leb}
use mathlib.Core.List.{IsPrefix}

-- of two fronts of one list the shorter begins the longer
pub prefix_shorter : {A : Type 0} (xs ys zs : List A) → IsPrefix xs zs → IsPrefix ys zs → length xs ≤ length ys → IsPrefix xs ys
prefix_shorter [] ys zs p q le = (ys, refl)
prefix_shorter (x ∷ xs) [] zs p q le = absurd (omega arith)
prefix_shorter (x ∷ xs) (y ∷ ys) [] p q le = absurd (cc (p.1))
prefix_shorter (x ∷ xs) (y ∷ ys) (z ∷ zs) p q le =
    let heads : x ≡ y = cc (p.1, q.1) in
    let rest = prefix_shorter xs ys zs (p.0, cc (p.1)) (q.0, cc (q.1)) (omega arith) in
    (rest.0, cc (heads, rest.1))

-- a front as long as the whole is the whole
pub prefix_whole : {A : Type 0} (xs ys : List A) → IsPrefix xs ys → length ys ≤ length xs → xs ≡ ys
prefix_whole [] [] p le = refl
prefix_whole [] (y ∷ ys) p le = absurd (omega arith)
prefix_whole (x ∷ xs) [] p le = absurd (cc (p.1))
prefix_whole (x ∷ xs) (y ∷ ys) p le =
    let rest = prefix_whole xs ys (p.0, cc (p.1)) (omega arith) in cc (p.1, rest)

pub prefix_along : {A : Type 0} (xs xs' ys ys' : List A) → IsPrefix xs ys → xs ≡ xs' → ys ≡ ys' → IsPrefix xs' ys'
prefix_along {A} xs xs' ys ys' p e f = subst (λ (l : List A). IsPrefix l ys') e (subst (λ (l : List A). IsPrefix xs l) f p)

-- the one with no fewer entries begins with the other
pub covered : {A : Type 0} (xs xs' ys ys' both : List A) (n m : ℕ) → IsPrefix xs both → IsPrefix ys both → n ≡ length xs → m ≡ length ys
    → xs ≡ xs' → ys ≡ ys' → OnTrue (leb m n) (IsPrefix ys' xs')
covered xs xs' ys ys' both n m p q long short e f =
    by_test (leb m n) (λ is. prefix_along ys ys' xs xs' (prefix_shorter ys xs both q p (grind (arith, nat_tests))) f e)
  where
    by_test : (b : Bool) → (b ≡ true → IsPrefix ys' xs') → OnTrue b (IsPrefix ys' xs')
    by_test true holds = holds refl
    by_test false holds = tt
