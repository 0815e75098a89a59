-- One field of a key: the wildcard `*`, or a name.
use Rattle.std.specs.Prelude.{ℕ, Bool, true, false, if◌then◌else◌, List, [], ◌∷◌, Option, None}
use Rattle.std.specs.declared.cmp.Ordering.{Ordering}
use Rattle.std.specs.Ordering.{on}
use Rattle.cynara_keys.specs.Text.{same_text, text_cmp}
use Rattle.cynara_keys.specs.Name.{name_fault}
use Rattle.cynara_keys.specs.declared.names.NameRefusal.{NameRefusal}
use Rattle.cynara_keys.specs.declared.fields.Field.{Field}
use Rattle.cynara_keys.specs.declared.fields.Field.TheVariants.{Any, Exact}
use Rattle.cynara_keys.specs.declared.fields.FilterField.{FilterField}
use Rattle.cynara_keys.specs.declared.fields.FilterField.TheVariants.{Every, Any as AnyStored, Exact as ExactStored}

-- the texts of the wildcard in a key, and of `every` in a filter
abbrev pub wildcard : List ℕ
wildcard = 42 ∷ []

abbrev pub every : List ℕ
every = 35 ∷ []

-- the one spelling of a field
abbrev pub field_text : Field → List ℕ
field_text Any = wildcard
field_text (Exact name) = name

-- the field that a text spells, if it spells one
abbrev pub field_of : List ℕ → Field
field_of text = if same_text text wildcard then Any else Exact text

abbrev pub field_fault : List ℕ → Option NameRefusal
field_fault text = if same_text text wildcard then None else name_fault text

-- the one spelling of a filter's field
abbrev pub filter_field_text : FilterField → List ℕ
filter_field_text Every = every
filter_field_text AnyStored = wildcard
filter_field_text (ExactStored name) = name

abbrev pub filter_field_of : List ℕ → FilterField
filter_field_of text =
    if same_text text every then Every else (if same_text text wildcard then AnyStored else ExactStored text)

abbrev pub filter_field_fault : List ℕ → Option NameRefusal
filter_field_fault text = if same_text text every then None else field_fault text

-- fields are in the order of their texts
abbrev pub field_cmp : Field → Field → Ordering
field_cmp = on field_text text_cmp

abbrev pub same_field : Field → Field → Bool
same_field = on field_text same_text

-- whether a field is `*` or the question's name
abbrev pub field_matches : Field → List ℕ → Bool
field_matches Any name = true
field_matches (Exact own) name = same_text own name

-- whether a filter's field is `#`, or the key's is the same: both `*`, or the same name
abbrev pub field_admits : FilterField → Field → Bool
field_admits Every field = true
field_admits AnyStored Any = true
field_admits AnyStored (Exact name) = false
field_admits (ExactStored own) Any = false
field_admits (ExactStored own) (Exact name) = same_text own name
