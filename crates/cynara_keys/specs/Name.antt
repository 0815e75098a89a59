-- Names of clients, users and privileges.
use Rattle.std.specs.Prelude.{◌≡◌, ℕ, Bool, false, not, ◌||◌, nat_lt, ◌==◌, if◌then◌else◌}
use Rattle.std.specs.Prelude.{List, [], ◌∷◌, length, Option, Some, None, is_none}
use Rattle.std.specs.List.{position}
use Rattle.cynara_keys.specs.Text.{is_visible}
use Rattle.cynara_keys.specs.Limits.{most_name_bytes}
use Rattle.cynara_keys.specs.declared.names.NameRefusal.{NameRefusal}
use Rattle.cynara_keys.specs.declared.names.NameRefusal.TheVariants.{Empty, TooLong, BadByte, Reserved, Memory}

-- `*` and `#` alone stand for a wildcard and for every field
abbrev pub is_reserved : List ℕ → Bool
is_reserved [] = false
is_reserved (byte ∷ []) = byte == 42 || byte == 35
is_reserved (byte ∷ next ∷ bytes) = false

-- the fault of the byte at the place, where there is one, or else the other fault
abbrev pub bad_byte_or : Option ℕ → Option NameRefusal → Option NameRefusal
bad_byte_or (Some at) other = Some (BadByte at)
bad_byte_or None other = other

-- the first rule of a name that the bytes break
abbrev pub name_fault : List ℕ → Option NameRefusal
name_fault bytes =
    if length bytes == 0 then Some Empty
    else (if nat_lt most_name_bytes (length bytes) then Some TooLong
    else bad_byte_or (position (λ byte. not (is_visible byte)) bytes)
    (if is_reserved bytes then Some Reserved else None))

abbrev pub is_name : List ℕ → Bool
is_name bytes = is_none (name_fault bytes)

-- The refusal names the fault. Want of memory comes only where there is none.
abbrev pub Refuses : NameRefusal → Option NameRefusal → Type 0
Refuses (Memory error) fault = fault ≡ None
Refuses refusal fault = fault ≡ Some refusal
