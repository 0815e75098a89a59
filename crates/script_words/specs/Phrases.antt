-- Several words that say one thing.
use Rattle.std.specs.Prelude.{ℕ, List, Option, Some}
use Rattle.cynara_keys.specs.Key.{Key, Question}
use Rattle.cynara_keys.specs.declared.keys.Filter.{Filter}
use Rattle.script_words.specs.Words.{word, ◌>>=◌}
use Rattle.script_words.specs.WordForms.{name_at, field_at, filter_field_at}

-- `CLIENT USER PRIVILEGE` of a policy
unfoldable pub key_at : List (List ℕ) → Option (Key × List (List ℕ))
key_at words = do
  client ← word field_at words
  user ← word field_at client.1
  privilege ← word field_at user.1
  Some (record { client = client.0; user = user.0; privilege = privilege.0 }, privilege.1)

-- `CLIENT USER PRIVILEGE` of a question
unfoldable pub question_at : List (List ℕ) → Option (Question × List (List ℕ))
question_at words = do
  client ← word name_at words
  user ← word name_at client.1
  privilege ← word name_at user.1
  Some (record { client = client.0; user = user.0; privilege = privilege.0 }, privilege.1)

-- `FILTER FILTER FILTER`
unfoldable pub filter_at : List (List ℕ) → Option (Filter × List (List ℕ))
filter_at words = do
  client ← word filter_field_at words
  user ← word filter_field_at client.1
  privilege ← word filter_field_at user.1
  Some (record { client = client.0; user = user.0; privilege = privilege.0 }, privilege.1)
