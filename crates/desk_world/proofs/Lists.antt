-- Elements of lists by place, and the first that passes a test.
use Rattle.std.proofs.Common.{◌≡◌, ℕ, zero, suc, Bool, List, [], ◌∷◌, ◌++◌, length, set, Option, Some, refl, sym, ap, subst, ◌∙◌, map, true, false, cond}
use Rattle.std.specs.Prelude.{All, slice_get}
use Rattle.std.specs.List.{find}
use Rattle.std.specs.Option.{option_or, option_map}
use Rattle.std.proofs.lemmas.List.{append-nil}
use Rattle.std.proofs.lemmas.List.Folds.{find-append}
use Rattle.std.proofs.lemmas.Option.{none-some, slice_get_within, get_or_from_slice_get}
use Rattle.desk_world.specs.Grows.{BeginsWith}

pub begins_same : {X : Type 0} (xs : List X) → BeginsWith xs xs
begins_same xs = ([], sym (append-nil xs))

pub begins_push : {X : Type 0} (xs : List X) (x : X) → BeginsWith (xs ++ x ∷ []) xs
begins_push xs x = (x ∷ [], refl)

pub get-append : {X : Type 0} (xs ys : List X) (k : ℕ) (x : X) → slice_get xs k ≡ Some x
    → slice_get (xs ++ ys) k ≡ Some x
get-append [] ys k x e = absurd (none-some x e)
get-append (y ∷ xs) ys zero x e = e
get-append (y ∷ xs) ys (suc k) x e = get-append xs ys k x e

pub get-end : {X : Type 0} (xs : List X) (y : X) → slice_get (xs ++ y ∷ []) (length xs) ≡ Some y
get-end [] y = refl
get-end (x ∷ xs) y = get-end xs y

pub get-set_same : {X : Type 0} (xs : List X) (k : ℕ) (x y : X) → slice_get xs k ≡ Some x
    → slice_get (set xs k y) k ≡ Some y
get-set_same [] k x y e = absurd (none-some x e)
get-set_same (z ∷ xs) zero x y e = refl
get-set_same (z ∷ xs) (suc k) x y e = get-set_same xs k x y e

pub get-set_other : {X : Type 0} (xs : List X) (k i : ℕ) (y : X) → (i ≡ k → ⊥)
    → slice_get (set xs k y) i ≡ slice_get xs i
get-set_other [] k i y other = refl
get-set_other (z ∷ xs) zero zero y other = absurd (other refl)
get-set_other (z ∷ xs) zero (suc i) y other = refl
get-set_other (z ∷ xs) (suc k) zero y other = refl
get-set_other (z ∷ xs) (suc k) (suc i) y other = get-set_other xs k i y (λ e. other (ap suc e))

pub get-map : {X Y : Type 0} (f : X → Y) (xs : List X) (k : ℕ) (x : X) → slice_get xs k ≡ Some x
    → slice_get (map f xs) k ≡ Some (f x)
get-map f [] k x e = absurd (none-some x e)
get-map f (y ∷ xs) zero x e = ap (option_map f) e
get-map f (y ∷ xs) (suc k) x e = get-map f xs k x e

pub begins-get : {X : Type 0} (xs ys : List X) (k : ℕ) (x : X) → BeginsWith ys xs → slice_get xs k ≡ Some x
    → slice_get ys k ≡ Some x
begins-get xs ys k x begins e =
    subst (λ list. slice_get list k ≡ Some x) (sym begins.1) (get-append xs begins.0 k x e)

pub find-begins : {X : Type 0} (p : X → Bool) (xs ys : List X) (x : X) → BeginsWith ys xs → find p xs ≡ Some x
    → find p ys ≡ Some x
find-begins p xs ys x begins e =
    ap (find p) begins.1 ∙ (find-append p xs begins.0 ∙ ap (λ o. option_or o (find p begins.0)) e)

pub all-at : {X : Type 0} (P : X → Type 0) (xs : List X) (k : ℕ) (x : X) → All P xs → slice_get xs k ≡ Some x → P x
all-at P xs k x all e = subst P (get_or_from_slice_get xs k x x e) (all k x (slice_get_within xs k x e))

find-map_step : {X : Type 0} (f : X → X) (test : Bool) (x y : X) (rest mapped : Option X)
    → (rest ≡ Some y → mapped ≡ Some (f y)) → cond test (Some x) rest ≡ Some y
    → cond test (Some (f x)) mapped ≡ Some (f y)
find-map_step f true x y rest mapped next e = ap (option_map f) e
find-map_step f false x y rest mapped next e = next e

-- a change of each element that the test does not see
pub find-map : {X : Type 0} (p : X → Bool) (f : X → X) → ((x : X) → p (f x) ≡ p x) → (xs : List X) (y : X)
    → find p xs ≡ Some y → find p (map f xs) ≡ Some (f y)
find-map p f same [] y e = absurd (none-some y e)
find-map p f same (x ∷ xs) y e =
    rw (same x) (find-map_step f (p x) x y (find p xs) (find p (map f xs)) (find-map p f same xs y) e)
