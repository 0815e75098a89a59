-- The numbers of names, and of the three texts of a key as one number.
use Rattle.std.specs.Prelude.{◌≡◌, ◌+◌, ◌*◌, ◌<◌, ℕ, nat_lt, if◌then◌else◌}
use Rattle.std.specs.Prelude.{true, List, slice_get, Option, None, Some, is_some}
use Rattle.std.specs.Prelude.{option_and_then}
use Rattle.std.specs.List.{position}
use Rattle.std.specs.Option.{option_map}
use Rattle.cynara_keys.specs.Field.{field_text}
use Rattle.cynara_keys.specs.Key.{Key}
use Rattle.cynara_keys.specs.Text.{same_text}
use Rattle.cynara_keys.specs.declared.keys.Policy.{Policy}

-- a number of 18 bits
abbrev pub if_small : ℕ → Option ℕ
if_small number = if nat_lt number 262144 then Some number else None

-- the place of a text among the names, where it has 18 bits
abbrev pub number_of : List (List ℕ) → List ℕ → Option ℕ
number_of names text = option_and_then if_small (position (same_text text) names)

-- what has a number keeps it
abbrev pub KeepsNumbers : List (List ℕ) → List (List ℕ) → Type 0
KeepsNumbers old new = (text : List ℕ) (number : ℕ) → number_of old text ≡ Some number
    → number_of new text ≡ Some number

-- three numbers as one
abbrev pub joined : ℕ → ℕ → ℕ → ℕ
joined client user privilege = client * 68719476736 + (user * 262144 + privilege)

abbrev pub join : Option ℕ → Option ℕ → Option ℕ → Option ℕ
join client user privilege =
    option_and_then (λ c. option_and_then (λ u. option_map (λ p. joined c u p) privilege) user) client

-- the number of a key: those of its three texts as one
abbrev pub mark_of : List (List ℕ) → Key → Option ℕ
mark_of names key =
    join (number_of names (field_text key.client)) (number_of names (field_text key.user))
    (number_of names (field_text key.privilege))

-- at this place stands a policy of this mark
pub record HasMark (names : List (List ℕ)) (policies : List Policy) (mark place : ℕ) : Type 0 where
  pub policy : Policy
  pub there : slice_get policies place ≡ Some policy
  pub is : mark_of names policy.key ≡ Some mark

-- the policy has a mark, and the marks lead to a place
pub record IsMarked (names : List (List ℕ)) (places : ℕ → Option ℕ) (policy : Policy) : Type 0 where
  pub mark : ℕ
  pub is : mark_of names policy.key ≡ Some mark
  pub leads : is_some (places mark) ≡ true

-- the places of marks are those of the policies
pub record IsTable (names : List (List ℕ)) (policies : List Policy) (places : ℕ → Option ℕ) : Type 0 where
  pub sound : (mark place : ℕ) → places mark ≡ Some place → HasMark names policies mark place
  pub complete : (place : ℕ) (policy : Policy) → slice_get policies place ≡ Some policy
      → IsMarked names places policy

-- the same of the first policies
pub record IsTableTo (names : List (List ℕ)) (policies : List Policy) (places : ℕ → Option ℕ) (count : ℕ) : Type 0 where
  pub sound : (mark place : ℕ) → places mark ≡ Some place → HasMark names policies mark place
  pub complete : (place : ℕ) (policy : Policy) → place < count → slice_get policies place ≡ Some policy
      → IsMarked names places policy
