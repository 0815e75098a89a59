-- The limits of this project's profile, as numbers. The constants of the code meet them in the proofs.
use Rattle.std.specs.Prelude.{ℕ}

-- users
abbrev pub most_users : ℕ
most_users = 64

-- packages
abbrev pub most_packages : ℕ
most_packages = 1024

-- installs
abbrev pub most_installs : ℕ
most_installs = 8192

-- privileges of all installs together
abbrev pub most_grants : ℕ
most_grants = 65536

-- bytes of an ident
abbrev pub most_ident_bytes : ℕ
most_ident_bytes = 100
