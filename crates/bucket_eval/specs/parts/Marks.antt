-- The numbers of a question's names, and the marks that a question seeks.
use Rattle.std.specs.Prelude.{◌≡◌, ◌<◌, ◌%◌, ◌==◌, ℕ, nat_le, if◌then◌else◌}
use Rattle.std.specs.Prelude.{List, length, Option, Some, IfSome, slice_get}
use Rattle.cynara_keys.specs.Field.{wildcard}
use Rattle.cynara_keys.specs.Key.{Question}
use Rattle.bucket_eval.specs.declared.numbers.Numbers.{Numbers}
use Rattle.bucket_eval.specs.parts.Numbers.{join, mark_of, number_of}
use Rattle.bucket_eval.specs.parts.Shapes.{sought}

-- the numbers are those of the question among the names
pub record AreNumbers (names : List (List ℕ)) (question : Question) (numbers : Numbers) : Type 0 where
  pub wildcard : numbers.wildcard ≡ number_of names wildcard
  pub client : numbers.client ≡ number_of names question.client
  pub user : numbers.user ≡ number_of names question.user
  pub privilege : numbers.privilege ≡ number_of names question.privilege

-- the number is that of the wildcard, and has 18 bits
pub record IsStar (names : List (List ℕ)) (star : Option ℕ) : Type 0 where
  pub is : star ≡ number_of names wildcard
  pub small : IfSome star (λ number. number < 262144)

-- each number has 18 bits
pub record AreSmall (numbers : Numbers) : Type 0 where
  pub wildcard : IfSome numbers.wildcard (λ number. number < 262144)
  pub client : IfSome numbers.client (λ number. number < 262144)
  pub user : IfSome numbers.user (λ number. number < 262144)
  pub privilege : IfSome numbers.privilege (λ number. number < 262144)

-- each text has one of these numbers
abbrev pub all_of : ℕ → ℕ → ℕ → ℕ → Numbers
all_of star client user privilege =
    record { wildcard = Some star; client = Some client; user = Some user; privilege = Some privilege }

-- the mark of the key of the shape that matches the question
abbrev pub sought_mark : Numbers → ℕ → Option ℕ
sought_mark numbers shape =
    join (if nat_le 4 shape then numbers.wildcard else numbers.client)
    (if nat_le 2 (shape % 4) then numbers.wildcard else numbers.user)
    (if shape % 2 == 1 then numbers.wildcard else numbers.privilege)

-- the marks are those of the keys that match the question
pub record AreMarks (names : List (List ℕ)) (question : Question) (marks : List (Option ℕ)) : Type 0 where
  pub count : length marks ≡ 8
  pub each : (shape : ℕ) → shape < 8 → slice_get marks shape ≡ Some (mark_of names (sought question shape))
