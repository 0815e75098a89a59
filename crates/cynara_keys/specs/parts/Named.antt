-- The names of a question, one behind the other.
use Rattle.std.specs.Prelude.{◌≡◌, ◌-◌, ◌≤◌, ℕ, List, length, take, drop, None}
use Rattle.cynara_keys.specs.Key.{Question}
use Rattle.cynara_keys.specs.Name.{name_fault}

-- the names of which the second begins at one place, and the third at another
abbrev pub named : List ℕ → ℕ → ℕ → Question
named names user privilege = record {
  client = take user names;
  user = take (privilege - user) (drop user names);
  privilege = drop privilege names;
}

pub record HasNames (question : Question) : Type 0 where
  pub client : name_fault question.client ≡ None
  pub user : name_fault question.user ≡ None
  pub privilege : name_fault question.privilege ≡ None

pub record IsNamed (names : List ℕ) (user privilege : ℕ) : Type 0 where
  pub rising : user ≤ privilege
  pub within : privilege ≤ length names
  pub are_names : HasNames (named names user privilege)
