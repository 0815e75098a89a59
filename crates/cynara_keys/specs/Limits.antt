-- The limits of this project's profile, as numbers. The constants of the code meet them in the proofs.
use Rattle.std.specs.Prelude.{ℕ}

-- bytes of a name
abbrev pub most_name_bytes : ℕ
most_name_bytes = 255

-- bytes of a bucket's name
abbrev pub most_bucket_name_bytes : ℕ
most_bucket_name_bytes = 64

-- bytes of metadata
abbrev pub most_metadata_bytes : ℕ
most_metadata_bytes = 255

-- bytes of a short text
abbrev pub most_short_bytes : ℕ
most_short_bytes = 255
