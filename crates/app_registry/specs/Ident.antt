-- Names of packages, authors and applications. Their bytes and their length are this project's profile.
use Rattle.std.specs.Prelude.{◌≡◌, ℕ, Bool, false, not, ◌||◌, nat_lt, ◌==◌}
use Rattle.std.specs.Prelude.{if◌then◌else◌, List, [], ◌∷◌, length, Option, Some, None}
use Rattle.std.specs.List.{position}
use Rattle.cynara_keys.specs.Text.{is_word_byte}
use Rattle.app_registry.specs.Limits.{most_ident_bytes}
use Rattle.app_registry.specs.declared.idents.IdentRefusal.{IdentRefusal}
use Rattle.app_registry.specs.declared.idents.IdentRefusal.TheVariants.{Empty, TooLong, BadByte, Memory}

-- a letter, a digit, an underscore, a dash or a dot
abbrev pub is_ident_byte : ℕ → Bool
is_ident_byte byte = is_word_byte byte || byte == 46

-- a dot or a dash stands in front
abbrev pub begins_with_mark : List ℕ → Bool
begins_with_mark [] = false
begins_with_mark (byte ∷ bytes) = byte == 46 || byte == 45

-- the place of the first byte that may not stand where it does
abbrev pub first_bad_byte : List ℕ → Option ℕ
first_bad_byte bytes = if begins_with_mark bytes then Some 0 else position (λ byte. not (is_ident_byte byte)) bytes

abbrev pub byte_fault : Option ℕ → Option IdentRefusal
byte_fault (Some at) = Some (BadByte at)
byte_fault None = None

-- the first rule of an ident that the bytes break
abbrev pub ident_fault : List ℕ → Option IdentRefusal
ident_fault bytes =
    if length bytes == 0 then Some Empty
    else (if nat_lt most_ident_bytes (length bytes) then Some TooLong else byte_fault (first_bad_byte bytes))

-- The refusal names the fault. Want of memory comes only for bytes without one.
abbrev pub Refuses : IdentRefusal → Option IdentRefusal → Type 0
Refuses (Memory error) fault = fault ≡ None
Refuses refusal fault = fault ≡ Some refusal
