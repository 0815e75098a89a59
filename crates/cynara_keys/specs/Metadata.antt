-- What a policy's result carries beside its kind, as the bucket that it points to.
use Rattle.std.specs.Prelude.{◌≡◌, ℕ, Bool, not, nat_lt, if◌then◌else◌, List, length, Option, Some, None, is_none}
use Rattle.std.specs.List.{position}
use Rattle.cynara_keys.specs.Text.{is_visible}
use Rattle.cynara_keys.specs.Limits.{most_metadata_bytes}
use Rattle.cynara_keys.specs.declared.metadata_texts.MetadataRefusal.{MetadataRefusal}
use Rattle.cynara_keys.specs.declared.metadata_texts.MetadataRefusal.TheVariants.{TooLong, BadByte, Memory}

-- the fault of the byte at the place, where there is one
abbrev pub bad_byte : Option ℕ → Option MetadataRefusal
bad_byte (Some at) = Some (BadByte at)
bad_byte None = None

-- the first rule of metadata that the bytes break
abbrev pub metadata_fault : List ℕ → Option MetadataRefusal
metadata_fault bytes =
    if nat_lt most_metadata_bytes (length bytes) then Some TooLong
    else bad_byte (position (λ byte. not (is_visible byte)) bytes)

abbrev pub is_metadata : List ℕ → Bool
is_metadata bytes = is_none (metadata_fault bytes)

-- The refusal names the fault. Want of memory comes only where there is none.
abbrev pub Refuses : MetadataRefusal → Option MetadataRefusal → Type 0
Refuses (Memory error) fault = fault ≡ None
Refuses refusal fault = fault ≡ Some refusal
