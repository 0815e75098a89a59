-- The shape of a key, as a number: 4 where the client is the wildcard, 2 where the user is, and 1 where the privilege
-- is, added up.
use Rattle.std.specs.Prelude.{◌≡◌, ℕ, ◌+◌, ◌%◌, Bool, true, false, ◌&&◌}
use Rattle.std.specs.Prelude.{◌==◌, if◌then◌else◌, nat_lt, nat_le, List, ◌∷◌, ◌++◌, length}
use Rattle.std.specs.Prelude.{Option, None, Some}
use Rattle.std.specs.List.{AllByRecursion}
use Rattle.cynara_keys.specs.Key.{key_matches}
use Rattle.cynara_keys.specs.declared.fields.Field.{Field}
use Rattle.cynara_keys.specs.declared.fields.Field.TheVariants.{Any, Exact}
use Rattle.cynara_keys.specs.Key.{Key}
use Rattle.cynara_keys.specs.declared.keys.Policy.{Policy}
use Rattle.cynara_keys.specs.Key.{Question}
use Rattle.bucket_eval.specs.Evaluation.{Contribution}

abbrev pub is_wild : Field → Bool
is_wild Any = true
is_wild (Exact name) = false

abbrev pub shape_by : Bool → Bool → Bool → ℕ
shape_by client user privilege =
    (if client then 4 else 0) + ((if user then 2 else 0) + (if privilege then 1 else 0))

abbrev pub shape_of : Key → ℕ
shape_of key = shape_by (is_wild key.client) (is_wild key.user) (is_wild key.privilege)

-- the key of the shape that matches the question
abbrev pub sought_field : Bool → List ℕ → Field
sought_field wild name = if wild then Any else Exact name

abbrev pub sought : Question → ℕ → Key
sought question shape = record {
  client = sought_field (nat_le 4 shape) question.client;
  user = sought_field (nat_le 2 (shape % 4)) question.user;
  privilege = sought_field (shape % 2 == 1) question.privilege;
}

-- whether the policy's key matches the question and has the shape
abbrev pub fits : Question → ℕ → Policy → Bool
fits question shape policy = key_matches policy.key question && (shape_of policy.key == shape)

-- the element at the place passes the test, and no other does
pub record OnlyAt {X : Type 0} (test : X → Bool) (list : List X) (at : ℕ) : Type 0 where
  pub front : List X
  pub element : X
  pub back : List X
  pub parts : list ≡ front ++ element ∷ back
  pub length_front : length front ≡ at
  pub before : AllByRecursion (λ other. test other ≡ false) front
  pub passes : test element ≡ true
  pub behind : AllByRecursion (λ other. test other ≡ false) back

-- the policy at the place fits and no other does, or none fits
abbrev pub FitsAt : Question → ℕ → List Policy → Option ℕ → Type 0
FitsAt question shape policies None = AllByRecursion (λ policy. fits question shape policy ≡ false) policies
FitsAt question shape policies (Some place) = OnlyAt (fits question shape) policies place

-- what the policies of the shape contribute, and those of the shapes below it
abbrev pub in_shape : ℕ → (Policy → Option Contribution) → Policy → Option Contribution
in_shape shape made policy = if shape_of policy.key == shape then made policy else None

abbrev pub below_shape : ℕ → (Policy → Option Contribution) → Policy → Option Contribution
below_shape shape made policy = if nat_lt (shape_of policy.key) shape then made policy else None
