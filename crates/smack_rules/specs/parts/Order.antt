-- The order in which a table keeps its pairs.
use Rattle.std.specs.Prelude.{ℕ, ◌*◌, ◌%◌, ◌^◌, Bool, List, fold, bit_xor}
use Rattle.std.specs.declared.cmp.Ordering.{Ordering}
use Rattle.std.specs.Ordering.{on, then_cmp, nat_cmp, eq_by_cmp}
use Rattle.std.specs.Cmp.Lexicographic.{slice_cmp}
use Rattle.smack_rules.specs.declared.pair_key.TheConstants.{FIRST_MARK, MARK_FACTOR}

-- a subject and an object
pub record LabelPair : Type 0 where
  pub subject : List ℕ
  pub object : List ℕ

-- a mark with one more byte, by the hash of Fowler, Noll and Vo
unfoldable pub mixed : ℕ → ℕ → ℕ
mixed mark byte = bit_xor mark byte * MARK_FACTOR % 2 ^ 64

-- A number made of all bytes of a pair. No order but this one rests on it, and pairs may share a mark.
unfoldable pub mark_of : List ℕ → List ℕ → ℕ
mark_of subject object = fold mixed (fold mixed FIRST_MARK subject) object

-- pairs are in the order of their marks, and where these are equal of their subjects and then their objects
abbrev pub pair_cmp : LabelPair → LabelPair → Ordering
pair_cmp =
    then_cmp (on (λ pair. mark_of pair.subject pair.object) nat_cmp)
    (then_cmp (on (λ pair. pair.subject) (slice_cmp nat_cmp)) (on (λ pair. pair.object) (slice_cmp nat_cmp)))

abbrev pub same_pair : LabelPair → LabelPair → Bool
same_pair = eq_by_cmp pair_cmp
