-- Times, as texts of RFC 3339 in UTC: in the order of their bytes, without the letter of the zone, they are in order of
-- time.
use Rattle.std.specs.Prelude.{ℕ, ◌-◌, Bool, false, not, if◌then◌else◌, ◌==◌, List}
use Rattle.std.specs.Prelude.{length, take, slice_get, Option, Some, None, codes}
use Rattle.std.specs.Ordering.{is_gt, nat_cmp}
use Rattle.std.specs.Cmp.Lexicographic.{slice_cmp}
use Rattle.std.specs.Str.{bytes_eq}

-- the letter of the zone, `Z`
abbrev pub is_zone : Option ℕ → Bool
is_zone None = false
is_zone (Some byte) = byte == 90

-- the text without a `Z` at its end
abbrev pub without_zone : List ℕ → List ℕ
without_zone text =
    if is_zone (slice_get text (length text - 1)) then take (length text - 1) text else text

-- The time is not before the other one, or its front. A time that is not known, `-`, is before each.
abbrev pub is_since : List ℕ → List ℕ → Bool
is_since time other =
    if bytes_eq time (codes "-") then false
    else not (is_gt (slice_cmp nat_cmp (without_zone other) (without_zone time)))
