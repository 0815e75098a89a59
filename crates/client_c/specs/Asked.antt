-- A question of four texts is read.
use Rattle.std.specs.Prelude.{◌≡◌, ℕ, List, Some, None, Result, Ok, Err}
use Rattle.client_c.specs.Exports.{wrong_name}
use Rattle.client_c.specs.declared.questions.Asking.{Asking}
use Rattle.client_c.specs.declared.questions.Unread.{Unread}
use Rattle.client_c.specs.declared.questions.Unread.TheVariants.{Wrong, Memory}

-- the four names, where all are names; else the code of the first that is none. No memory may be found for them.
abbrev pub Reads : Result Asking Unread → List ℕ → List ℕ → List ℕ → List ℕ → Type 0
Reads (Ok asking) session client user privilege =
    (wrong_name session client user privilege ≡ None)
    × (asking ≡ record { session = session; question = record { client = client; user = user; privilege = privilege } })
Reads (Err (Wrong code)) session client user privilege = wrong_name session client user privilege ≡ Some code
Reads (Err Memory) session client user privilege = wrong_name session client user privilege ≡ None
