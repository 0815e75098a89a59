-- The columns of rows.
use Rattle.std.specs.Prelude.{◌≡◌, ◌≤◌, ℕ, List, [], ◌∷◌, length}
use Rattle.lane_scan.specs.Rows.{Row, most_rows}

-- the rows of three columns
abbrev pub rows_of : List ℕ → List ℕ → List ℕ → List Row
rows_of [] users privileges = []
rows_of (client ∷ clients) [] privileges = []
rows_of (client ∷ clients) (user ∷ users) [] = []
rows_of (client ∷ clients) (user ∷ users) (privilege ∷ privileges) =
    record { client = client; user = user; privilege = privilege } ∷ rows_of clients users privileges

-- the columns are of one length, and not too long
pub record AreColumns (clients users privileges : List ℕ) : Type 0 where
  pub as_many_users : length users ≡ length clients
  pub as_many_privileges : length privileges ≡ length clients
  pub bound : length clients ≤ most_rows
