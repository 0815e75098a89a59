-- What the texts of keys and results are made of, and how they compare.
use Rattle.std.specs.Prelude.{ℕ, Bool, not, ◌&&◌, ◌||◌, nat_lt, nat_le, nat_eq, ◌==◌, List}
use Rattle.std.specs.declared.cmp.Ordering.{Ordering}
use Rattle.std.specs.Ordering.{nat_cmp}
use Rattle.std.specs.Cmp.Lexicographic.{slice_cmp}
use lib.Pointwise.{pointwise}

-- a printable byte of ASCII, but not the space and not the semicolon
abbrev pub is_visible : ℕ → Bool
is_visible byte = nat_lt 32 byte && (nat_lt byte 127 && not (byte == 59))

-- a letter, a digit, an underscore or a dash
abbrev pub is_word_byte : ℕ → Bool
is_word_byte byte =
    ((nat_le 97 byte && nat_le byte 122) || (nat_le 65 byte && nat_le byte 90))
    || ((nat_le 48 byte && nat_le byte 57) || (byte == 95 || byte == 45))

-- the same bytes
abbrev pub same_text : List ℕ → List ℕ → Bool
same_text = pointwise nat_eq

-- texts compare byte by byte, and what is a front of the other comes first
abbrev pub text_cmp : List ℕ → List ℕ → Ordering
text_cmp = slice_cmp nat_cmp
