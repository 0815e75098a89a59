-- The names of the files.
use Rattle.std.specs.Prelude.{ℕ, Bool, false, not, ◌&&◌, ◌||◌, ◌==◌, List, [], ◌∷◌, ◌++◌, codes}
use Rattle.cynara_keys.specs.BucketName.{is_bucket_name}
use Rattle.set_text.specs.Registry.{is_ident}

abbrev pub stamp : List ℕ
stamp = codes "stamp"

abbrev pub buckets : List ℕ
buckets = codes "buckets"

abbrev pub users : List ℕ
users = codes "users"

abbrev pub apps : List ℕ
apps = codes "apps"

abbrev pub template : List ℕ
template = codes "template"

-- the files that every set has, in order
abbrev pub fixed_files : List (List ℕ)
fixed_files = apps ∷ buckets ∷ stamp ∷ template ∷ users ∷ []

-- the file of the policies of a bucket: that of the root bucket is `_`
abbrev pub bucket_file : List ℕ → List ℕ
bucket_file name = 95 ∷ name

-- the file of the rules of a package
abbrev pub load_file : List ℕ → List ℕ
load_file name = codes "r." ++ name

abbrev pub is_bucket_file : List ℕ → Bool
is_bucket_file [] = false
is_bucket_file (byte ∷ name) = byte == 95 && is_bucket_name name

abbrev pub is_load_file : List ℕ → Bool
is_load_file [] = false
is_load_file (first ∷ []) = false
is_load_file (first ∷ second ∷ name) = first == 114 && (second == 46 && is_ident name)

-- a file that is neither that of a bucket nor that of a package
abbrev pub is_other_file : List ℕ → Bool
is_other_file name = not (is_bucket_file name || is_load_file name)
