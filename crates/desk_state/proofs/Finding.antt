-- The first element that passes a test, in a list that a function made.
use Rattle.std.proofs.Common.{◌≡◌, Bool, true, false, cond, List, [], ◌∷◌, map, find, Some, refl}
use Rattle.std.specs.Option.{option_map}

pub find-map : {X Y : Type 0} (test : Y → Bool) (f : X → Y) (xs : List X)
    → find test (map f xs) ≡ option_map f (find (λ x. test (f x)) xs)
find-map test f [] = refl
find-map {X} {Y} test f (x ∷ xs) = at (test (f x)) (find-map test f xs)
  where
    at : (b : Bool) → find test (map f xs) ≡ option_map f (find (λ (x : X). test (f x)) xs)
        → cond b (Some (f x)) (find test (map f xs)) ≡ option_map f (cond b (Some x) (find (λ (x : X). test (f x)) xs))
    at true rest = refl
    at false rest = rest
