-- The texts of a key in one block, each behind its count.
use Rattle.std.specs.Prelude.{◌≡◌, ◌+◌, ◌-◌, ◌≤◌, ℕ, List, length, take, drop, None}
use Rattle.cynara_keys.specs.Field.{field_of, field_fault}
use Rattle.cynara_keys.specs.Key.{Key, packed_texts}

-- the texts where the user's begins at one place, and the privilege's at another
abbrev pub client_in : List ℕ → ℕ → List ℕ
client_in block user = take (user - 2 - 2) (drop 2 block)

abbrev pub user_in : List ℕ → ℕ → ℕ → List ℕ
user_in block user privilege = take (privilege - 2 - user) (drop user block)

abbrev pub privilege_in : List ℕ → ℕ → List ℕ
privilege_in block privilege = drop privilege block

abbrev pub key_in : List ℕ → ℕ → ℕ → Key
key_in block user privilege = record {
  client = field_of (client_in block user);
  user = field_of (user_in block user privilege);
  privilege = field_of (privilege_in block privilege);
}

pub record IsPacked (block : List ℕ) (user privilege : ℕ) : Type 0 where
  pub begins : 4 ≤ user
  pub rising : user + 2 ≤ privilege
  pub within : privilege ≤ length block
  pub client_fits : field_fault (client_in block user) ≡ None
  pub user_fits : field_fault (user_in block user privilege) ≡ None
  pub privilege_fits : field_fault (privilege_in block privilege) ≡ None
  pub packed : packed_texts (client_in block user) (user_in block user privilege) (privilege_in block privilege) ≡ block
