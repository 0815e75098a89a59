-- How fields stand in a frame: the one spelling of a value, and what is read at the front of what is left.
use Rattle.std.specs.Prelude.{ℕ, zero, suc, Bool, true, false, nat_lt, ◌==◌, if◌then◌else◌, List, [], ◌∷◌, ◌++◌, length}
use Rattle.std.specs.Prelude.{take, drop, Ok, ◌⊎◌}
use Rattle.std.specs.List.{flat_map}
use Rattle.std.specs.Int.{Width, w8, w16, w32, byte_len, to_be_bytes, from_be_bytes}
use Rattle.std.proofs.Common.{inl, inr}
use Rattle.wire_fields.specs.Left.{Left, Reading, wrong, ◌>>=◌}

pub record Format (X : Type 0) : Type 0 where
  pub spelled : X → List ℕ
  pub read : Left → Reading X

-- what is left behind the next bytes
abbrev pub behind : ℕ → Left → Left
behind count left = record { end = left.end; rest = drop count left.rest }

-- a number of some bytes, the highest first
abbrev pub number : Width → Format ℕ
number w = record {
  spelled = to_be_bytes w;
  read = λ left. if nat_lt (length left.rest) (byte_len w) then wrong left
      else Ok (from_be_bytes w (take (byte_len w) left.rest), behind (byte_len w) left);
}

-- the bytes of which a number in front of them tells how many
abbrev pub sized : Width → Format (List ℕ)
sized w = record {
  spelled = λ bytes. to_be_bytes w (length bytes) ++ bytes;
  read = λ left. (number w).read left
      >>= λ count. if nat_lt (length count.1.rest) count.0 then wrong left
      else Ok (take count.0 count.1.rest, behind count.0 count.1);
}

-- a number of two bytes, and so many bytes
abbrev pub text : Format (List ℕ)
text = sized w16

-- a field whose value must pass a test
abbrev pub tested : {X : Type 0} → (X → Bool) → Format X → Format X
tested passes format = record {
  spelled = format.spelled;
  read = λ left. format.read left >>= λ x. if passes x.0 then Ok x else wrong left;
}

-- a field of another type, whose values are seen as these
abbrev pub seen : {X Y : Type 0} → (X → Y) → (Y → X) → Format X → Format Y
seen of plain format = record {
  spelled = λ y. format.spelled (plain y);
  read = λ left. format.read left >>= λ x. Ok (of x.0, x.1);
}

-- what is read as a value that is made of these
abbrev pub made : {X Y : Type 0} → (X → Y) → Format X → Left → Reading Y
made of format left = format.read left >>= λ x. Ok (of x.0, x.1)

infixr 20 ◌⊗◌
-- one field and then another
abbrev pub ◌⊗◌ : {X Y : Type 0} → Format X → Format Y → Format (X × Y)
first ⊗ second = record {
  spelled = λ both. first.spelled both.0 ++ second.spelled both.1;
  read = λ left. first.read left >>= λ x. second.read x.1 >>= λ y. Ok ((x.0, y.0), y.1);
}

-- one field and then another, whose form depends on the first
abbrev pub leading : {X Y : Type 0} → Format X → (X → Format Y) → Format (X × Y)
leading first second = record {
  spelled = λ both. first.spelled both.0 ++ (second both.0).spelled both.1;
  read = λ left. first.read left >>= λ x. (second x.0).read x.1 >>= λ y. Ok ((x.0, y.0), y.1);
}

-- no field
abbrev pub nothing : Format (Unit {0})
nothing = record { spelled = λ x. []; read = λ left. Ok (tt, left) }

-- a byte that is 0 or 1
abbrev pub flag : Format Bool
flag = seen (λ n. n == 1) (λ b. if b then 1 else 0) (tested (λ n. nat_lt n 2) (number w8))

-- behind a flag of 1 the one form, behind a flag of 0 the other
abbrev pub flagged : {X Y : Type 0} → Format X → Format Y → X ⊎ Y → List ℕ
flagged one other (inl x) = 1 ∷ one.spelled x
flagged one other (inr y) = 0 ∷ other.spelled y

abbrev pub behind_flag : {X Y : Type 0} → Format X → Format Y → Bool → Left → Reading (X ⊎ Y)
behind_flag one other true left = one.read left >>= λ x. Ok (inl x.0, x.1)
behind_flag one other false left = other.read left >>= λ y. Ok (inr y.0, y.1)

abbrev pub either : {X Y : Type 0} → Format X → Format Y → Format (X ⊎ Y)
either one other = record {
  spelled = flagged one other;
  read = λ left. flag.read left >>= λ sign. behind_flag one other sign.0 sign.1;
}

-- so many of one form, one after the other
unfoldable pub each : {X : Type 0} → Format X → ℕ → Left → Reading (List X)
each format zero left = Ok ([], left)
each format (suc count) left = do
  first ← format.read left
  others ← each format count first.1
  Ok (first.0 ∷ others.0, others.1)

-- a number of four bytes, and so many of one form
abbrev pub counted : {X : Type 0} → Format X → Format (List X)
counted format = record {
  spelled = λ xs. to_be_bytes w32 (length xs) ++ flat_map format.spelled xs;
  read = λ left. (number w32).read left >>= λ count. each format count.0 count.1;
}
