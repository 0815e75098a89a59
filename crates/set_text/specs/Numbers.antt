-- Numbers as text. Each has one spelling, and only that one is read.
use Rattle.std.specs.Prelude.{ℕ, ◌&&◌, false, nat_le, if◌then◌else◌, List, ◌++◌}
use Rattle.std.specs.Prelude.{drop, codes, decimal, Option, Some, None}
use Rattle.std.specs.Fmt.{digits}
use Rattle.std.specs.Str.Parse.{digits_value}
use Rattle.cynara_keys.specs.Text.{same_text}

-- a number, where it is not above the most and the text is its spelling
abbrev pub spelt_as : (ℕ → List ℕ) → ℕ → List ℕ → ℕ → Option ℕ
spelt_as spell most text number = if nat_le number most && same_text (spell number) text then Some number else None

-- the number that a text spells in decimal, without leading zeros
abbrev pub decimal_of : ℕ → List ℕ → Option ℕ
decimal_of most text = spelt_as decimal most text (digits_value 10 text)

-- a kind is spelled in hexadecimal: `0x`, and small digits without leading zeros
abbrev pub kind_text : ℕ → List ℕ
kind_text kind = codes "0x" ++ digits 16 false kind

abbrev pub last_kind : ℕ
last_kind = 65535

abbrev pub kind_of : List ℕ → Option ℕ
kind_of text = spelt_as kind_text last_kind text (digits_value 16 (drop 2 text))
