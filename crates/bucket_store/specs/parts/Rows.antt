-- The policies of some rows, and those besides.
use Rattle.std.specs.Prelude.{◌≡◌, ◌≤◌, ℕ, ◌+◌, ◌==◌, Bool, false}
use Rattle.std.specs.Prelude.{if◌then◌else◌, List, [], ◌∷◌, ◌++◌, length, slice_get}
use Rattle.std.specs.List.{flat_map}
use Rattle.std.specs.Option.{option_to_list}
use Rattle.lane_scan.specs.Rows.{Row}
use Rattle.cynara_keys.specs.declared.keys.Filter.{Filter}
use Rattle.cynara_keys.specs.declared.keys.Policy.{Policy}
use Rattle.bucket_store.specs.parts.Numbering.{IsRow}

-- the policies at these places
abbrev pub at_places : List Policy → List ℕ → List Policy
at_places policies places = flat_map (λ place. option_to_list (slice_get policies place)) places

-- the policies, of which the first stands at this place, that stand at none of the places, which rise
abbrev pub besides : ℕ → List ℕ → List Policy → List Policy
besides first places [] = []
besides first [] (policy ∷ policies) = policy ∷ besides (first + 1) [] policies
besides first (place ∷ places) (policy ∷ policies) =
    if place == first then besides (first + 1) places policies
    else policy ∷ besides (first + 1) (place ∷ places) policies

-- a row of the policy's numbers was put behind the others, and at most three names behind the others
pub record PushedRow (old_names new_names : List (List ℕ)) (asked : Filter) (policy : Policy) (old new : List Row) :
    Type 0 where
  pub row : Row
  pub is_row : IsRow new_names asked policy row
  pub pushed : new ≡ old ++ row ∷ []
  pub more : List (List ℕ)
  pub names : new_names ≡ old_names ++ more
  pub at_most_three : length more ≤ 3

-- whether the first of the places is this one
abbrev pub starts_with : ℕ → List ℕ → Bool
starts_with at [] = false
starts_with at (place ∷ places) = place == at
