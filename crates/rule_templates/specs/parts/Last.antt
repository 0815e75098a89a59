-- Labels put one behind the other, each where it is not the last of them.
use Rattle.std.specs.Prelude.{ℕ, Bool, false, ◌-◌, if◌then◌else◌, List, [], ◌∷◌, length, slice_get, Option, Some, None}
use Rattle.cynara_keys.specs.Text.{same_text}

-- the last label is this one
abbrev pub ends_with : Option (List ℕ) → List ℕ → Bool
ends_with None label = false
ends_with (Some last) label = same_text last label

abbrev pub last_of : List (List ℕ) → Option (List ℕ)
last_of labels = slice_get labels (length labels - 1)

-- what is put behind labels: the label, where it is not the last of them
abbrev pub tail_of : List (List ℕ) → List ℕ → List (List ℕ)
tail_of labels label = if ends_with (last_of labels) label then [] else label ∷ []
