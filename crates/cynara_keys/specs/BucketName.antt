-- Names of buckets. The empty one names the root bucket.
use Rattle.std.specs.Prelude.{◌≡◌, ℕ, Bool, not, nat_lt, if◌then◌else◌, List, length, Option, Some, None, is_none}
use Rattle.std.specs.List.{position}
use Rattle.cynara_keys.specs.Text.{is_word_byte}
use Rattle.cynara_keys.specs.Limits.{most_bucket_name_bytes}
use Rattle.cynara_keys.specs.declared.bucket_names.BucketNameRefusal.{BucketNameRefusal}
use Rattle.cynara_keys.specs.declared.bucket_names.BucketNameRefusal.TheVariants.{TooLong, BadByte, Memory}

-- the fault of the byte at the place, where there is one
abbrev pub bad_byte : Option ℕ → Option BucketNameRefusal
bad_byte (Some at) = Some (BadByte at)
bad_byte None = None

-- the first rule of a bucket's name that the bytes break
abbrev pub bucket_name_fault : List ℕ → Option BucketNameRefusal
bucket_name_fault bytes =
    if nat_lt most_bucket_name_bytes (length bytes) then Some TooLong
    else bad_byte (position (λ byte. not (is_word_byte byte)) bytes)

abbrev pub is_bucket_name : List ℕ → Bool
is_bucket_name bytes = is_none (bucket_name_fault bytes)

-- The refusal names the fault. Want of memory comes only where there is none.
abbrev pub Refuses : BucketNameRefusal → Option BucketNameRefusal → Type 0
Refuses (Memory error) fault = fault ≡ None
Refuses refusal fault = fault ≡ Some refusal
