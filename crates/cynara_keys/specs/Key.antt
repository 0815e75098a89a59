-- Keys of policies, the questions that they match, and the filters that admit them, as in the Cynara wiki.
use Rattle.std.specs.Prelude.{Bool, ◌&&◌, ℕ, List, ◌++◌, length}
use Rattle.std.specs.Int.{w16, to_be_bytes}
use Rattle.std.specs.declared.cmp.Ordering.{Ordering}
use Rattle.std.specs.Ordering.{on, then_cmp, eq_of_both}
use Rattle.cynara_keys.specs.Text.{same_text}
use Rattle.cynara_keys.specs.Field.{field_text, field_matches, field_admits, field_cmp, same_field}
use Rattle.cynara_keys.specs.declared.fields.Field.{Field}
use Rattle.cynara_keys.specs.declared.keys.Filter.{Filter}

-- what a policy is kept under
pub record Key : Type 0 where
  pub client : Field
  pub user : Field
  pub privilege : Field

-- a question: whether the client may use the privilege for the user
pub record Question : Type 0 where
  pub client : List ℕ
  pub user : List ℕ
  pub privilege : List ℕ

-- a key matches a question where each field is `*` or the question's
abbrev pub key_matches : Key → Question → Bool
key_matches key question =
    field_matches key.client question.client
    && (field_matches key.user question.user && field_matches key.privilege question.privilege)

-- a filter admits a key where each of its fields does
abbrev pub filter_admits : Filter → Key → Bool
filter_admits filter key =
    field_admits filter.client key.client
    && (field_admits filter.user key.user && field_admits filter.privilege key.privilege)

-- keys are in the order of client, user and privilege in turn
abbrev pub key_cmp : Key → Key → Ordering
key_cmp =
    then_cmp (on (λ key. key.client) field_cmp)
    (then_cmp (on (λ key. key.user) field_cmp) (on (λ key. key.privilege) field_cmp))

-- the same texts in each field
abbrev pub same_key : Key → Key → Bool
same_key =
    eq_of_both (on (λ key. key.client) same_field)
    (eq_of_both (on (λ key. key.user) same_field) (on (λ key. key.privilege) same_field))

abbrev pub same_question : Question → Question → Bool
same_question =
    eq_of_both (on (λ question. question.client) same_text)
    (eq_of_both (on (λ question. question.user) same_text) (on (λ question. question.privilege) same_text))

-- a text behind its count, which has two bytes, the higher first
abbrev pub counted_text : List ℕ → List ℕ
counted_text text = to_be_bytes w16 (length text) ++ text

abbrev pub packed_texts : List ℕ → List ℕ → List ℕ → List ℕ
packed_texts client user privilege = counted_text client ++ (counted_text user ++ counted_text privilege)

-- the texts of a key in turn, each behind its count
abbrev pub packed : Key → List ℕ
packed key = packed_texts (field_text key.client) (field_text key.user) (field_text key.privilege)
