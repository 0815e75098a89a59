-- Bytes from the outside, as a person is shown them.
use Rattle.std.specs.Prelude.{◌≡◌, ℕ, Bool, true, ◌&&◌, not, ◌==◌, ◌+◌, ◌/◌}
use Rattle.std.specs.Prelude.{◌%◌, List, [], ◌∷◌, take, flat_map, nat_lt, nat_le, if◌then◌else◌}
use Rattle.std.specs.List.{list_all}

-- printable ASCII, the space with it
abbrev pub is_printable : ℕ → Bool
is_printable byte = nat_le 32 byte && nat_le byte 126

abbrev pub IsPrintable : List ℕ → Type 0
IsPrintable text = list_all is_printable text ≡ true

-- a byte that stands for itself. The backslash begins each other form
abbrev pub is_plain : ℕ → Bool
is_plain byte = is_printable byte && not (byte == 92)

-- the digits of 0 to 15: `0` to `9` and `a` to `f`
abbrev pub hex_digit : ℕ → ℕ
hex_digit value = if nat_lt value 10 then 48 + value else 87 + value

-- `\x` and two digits
abbrev pub escaped_byte : ℕ → List ℕ
escaped_byte byte = 92 ∷ 120 ∷ hex_digit (byte / 16) ∷ hex_digit (byte % 16) ∷ []

abbrev pub shown_byte : ℕ → List ℕ
shown_byte byte = if is_plain byte then byte ∷ [] else escaped_byte byte

-- the first bytes of all that is shown
abbrev pub shown_bytes : ℕ → List ℕ → List ℕ
shown_bytes most bytes = take most (flat_map shown_byte bytes)
