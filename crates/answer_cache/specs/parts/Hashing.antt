-- What a hasher of texts computes.
use Rattle.std.specs.Prelude.{ℕ, ◌*◌, ◌/◌, ◌%◌, ◌^◌, bit_or, bit_xor, List, [], ◌∷◌}
use Rattle.answer_cache.specs.declared.hashing.TextHasher.{TextHasher}

abbrev pub initial : TextHasher
initial = record { state = 0x243f_6a88_85a3_08d3 }

abbrev pub first : List ℕ → ℕ
first [] = 0
first (byte ∷ bytes) = byte

-- seven bits to the left, round, and the byte
abbrev pub step : ℕ → ℕ → ℕ
step state byte = bit_xor (bit_or ((state * 2 ^ 7) % 2 ^ 64) (state / 2 ^ 57)) byte

abbrev pub write : TextHasher → List ℕ → TextHasher
write hasher bytes = record { state = step hasher.state (first bytes) }

abbrev pub folded : ℕ → ℕ
folded product = bit_xor product (product / 2 ^ 32)

abbrev pub mixed : ℕ → ℕ
mixed state = folded ((state * 0x9e37_79b9_7f4a_7c15) % 2 ^ 64)

abbrev pub finish : TextHasher → ℕ
finish hasher = mixed hasher.state
