-- Labels, from the Linux kernel's Documentation/admin-guide/LSM/Smack; the refusal of `@` and `?` is this project's
-- profile.
use Rattle.std.specs.Prelude.{ℕ, Bool, false, ◌&&◌, ◌||◌, not, ◌==◌, nat_lt, nat_le}
use Rattle.std.specs.Prelude.{List, [], ◌∷◌, length, Option, Some, None, position, if◌then◌else◌}
use Rattle.std.specs.Str.{bytes_eq}
use Rattle.smack_rules.specs.Limits.{most_label_bytes}
use Rattle.smack_rules.specs.declared.label.LabelRefusal.{LabelRefusal}
use Rattle.smack_rules.specs.declared.label.LabelRefusal.TheVariants.{Empty, TooLong, BadByte, Dash, Special}

-- a printable byte from 0x21 to 0x7E, but not `/`, `\`, `'` or `"`
abbrev pub is_label_byte : ℕ → Bool
is_label_byte byte = nat_le 0x21 byte && nat_le byte 0x7E && not (byte == 47 || byte == 92 || byte == 39 || byte == 34)

abbrev pub begins_with_dash : List ℕ → Bool
begins_with_dash [] = false
begins_with_dash (byte ∷ bytes) = byte == 45

-- the labels `@` and `?`
abbrev pub is_special : List ℕ → Bool
is_special bytes = bytes_eq bytes (64 ∷ []) || bytes_eq bytes (63 ∷ [])

-- the fault of a form whose bytes are right
abbrev pub form_fault : List ℕ → Option LabelRefusal
form_fault bytes = if begins_with_dash bytes then Some Dash else (if is_special bytes then Some Special else None)

-- a bad byte where there is one, and else a fault of the form
abbrev pub byte_fault : List ℕ → Option ℕ → Option LabelRefusal
byte_fault bytes (Some at) = Some (BadByte at)
byte_fault bytes None = form_fault bytes

-- the first rule that the bytes break; none where they are a label
abbrev pub label_fault : List ℕ → Option LabelRefusal
label_fault bytes =
    if length bytes == 0 then Some Empty
    else (if nat_lt most_label_bytes (length bytes) then Some TooLong
    else byte_fault bytes (position (λ byte. not (is_label_byte byte)) bytes))
