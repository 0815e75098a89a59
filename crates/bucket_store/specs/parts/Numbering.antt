-- The numbers of the texts of a bucket's keys: 0 for the wildcard, and for a name one more than its place in a list of
-- names.
use Rattle.std.specs.Prelude.{◌≡◌, ◌≤◌, ℕ, ◌+◌, Bool, true, ◌||◌, if◌then◌else◌}
use Rattle.std.specs.Prelude.{List, ◌++◌, length, Option, Some, None, position}
use Rattle.std.specs.List.{list_any, position_or_len}
use Rattle.std.specs.Option.{option_map}
use Rattle.lane_scan.specs.Rows.{Row}
use Rattle.cynara_keys.specs.Text.{same_text}
use Rattle.cynara_keys.specs.Field.{wildcard, field_of}
use Rattle.cynara_keys.specs.declared.fields.Field.{Field}
use Rattle.cynara_keys.specs.declared.fields.FilterField.{FilterField}
use Rattle.cynara_keys.specs.declared.fields.FilterField.TheVariants.{Every, Any, Exact}
use Rattle.cynara_keys.specs.declared.keys.Filter.{Filter}
use Rattle.cynara_keys.specs.declared.keys.Policy.{Policy}

abbrev pub number_of : List (List ℕ) → List ℕ → ℕ
number_of names text = if same_text text wildcard then 0 else position_or_len (same_text text) names + 1

abbrev pub is_known : List (List ℕ) → List ℕ → Bool
is_known names text = same_text text wildcard || list_any (same_text text) names

-- the text is the wildcard or one of the names, and has this number
pub record HasNumber (names : List (List ℕ)) (text : List ℕ) (number : ℕ) : Type 0 where
  pub known : is_known names text ≡ true
  pub is : number ≡ number_of names text

-- at most one name was added
pub record IsNext (old new : List (List ℕ)) : Type 0 where
  pub more : List (List ℕ)
  pub is : new ≡ old ++ more
  pub at_most_one : length more ≤ 1

-- the number of a name, where it is one of these
abbrev pub found_number : List (List ℕ) → List ℕ → Option ℕ
found_number names name = option_map (λ place. place + 1) (position (same_text name) names)

-- what a filter's field asks of a number; none where no number has what it asks
abbrev pub wanted_number : List (List ℕ) → FilterField → Option (Option ℕ)
wanted_number names Every = Some None
wanted_number names Any = Some (Some 0)
wanted_number names (Exact name) = option_map (λ number. Some number) (found_number names name)

-- the field has this number
pub record IsFieldNumber (names : List (List ℕ)) (field : Field) (number : ℕ) : Type 0 where
  pub text : List ℕ
  pub reads : field_of text ≡ field
  pub has : HasNumber names text number

-- where the filter asks for the field, the field has this number
abbrev pub IsAskedNumber : List (List ℕ) → FilterField → Field → ℕ → Type 0
IsAskedNumber names Every field number = Unit {0}
IsAskedNumber names Any field number = IsFieldNumber names field number
IsAskedNumber names (Exact name) field number = IsFieldNumber names field number

-- the row has the numbers of the fields that the filter asks for
pub record IsRow (names : List (List ℕ)) (filter : Filter) (policy : Policy) (row : Row) : Type 0 where
  pub client : IsAskedNumber names filter.client policy.key.client row.client
  pub user : IsAskedNumber names filter.user policy.key.user row.user
  pub privilege : IsAskedNumber names filter.privilege policy.key.privilege row.privilege
