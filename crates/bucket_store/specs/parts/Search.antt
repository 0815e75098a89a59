-- Where a search ends in a list that rises, by what each element's comparison with the key answers.
use Rattle.std.specs.Prelude.{◌≡◌, ℕ, List, ◌∷◌, ◌++◌, length}
use Rattle.std.specs.declared.cmp.Ordering.{Ordering}
use Rattle.std.specs.declared.cmp.Ordering.TheVariants.{Less, Equal, Greater}
use Rattle.std.specs.List.{AllByRecursion}

-- the element at the place ties with the key, those in front come before it, and those from there on come behind it
pub record StandsAt {X : Type 0} (answer : X → Ordering) (list : List X) (place : ℕ) : Type 0 where
  pub front : List X
  pub element : X
  pub back : List X
  pub parts : list ≡ front ++ element ∷ back
  pub length_front : length front ≡ place
  pub before : AllByRecursion (λ other. answer other ≡ Less) front
  pub ties : answer element ≡ Equal
  pub behind : AllByRecursion (λ other. answer other ≡ Greater) back

-- no element ties with the key: those in front of the place come before it, and those from the place on come behind it
pub record BelongsAt {X : Type 0} (answer : X → Ordering) (list : List X) (place : ℕ) : Type 0 where
  pub front : List X
  pub back : List X
  pub parts : list ≡ front ++ back
  pub length_front : length front ≡ place
  pub before : AllByRecursion (λ other. answer other ≡ Less) front
  pub behind : AllByRecursion (λ other. answer other ≡ Greater) back
