-- Which rows are asked for.
use Rattle.std.specs.Prelude.{ℕ, Bool, true, ◌==◌, ◌&&◌, ◌||◌, List, Option, Some, None, slice_index, slice_index_or}
use Rattle.lane_scan.specs.Rows.{Row}

-- the number that stands for the wildcard
abbrev pub wildcard : ℕ
wildcard = 0

-- a place that is asked for holds this very number, the wildcard's too, and one that is not asked for holds any
abbrev pub is_wanted : Option ℕ → ℕ → Bool
is_wanted (Some wanted) number = number == wanted
is_wanted None number = true

-- the row equals what is wanted in each place that is asked for: client, user and privilege in turn
abbrev pub selects : List (Option ℕ) → Row → Bool
selects want row =
    is_wanted (slice_index_or want 0 None) row.client
    && (is_wanted (slice_index_or want 1 None) row.user && is_wanted (slice_index_or want 2 None) row.privilege)

-- a place speaks of the number where it is the wildcard or that number
abbrev pub speaks_of : ℕ → ℕ → Bool
speaks_of asked number = number == wildcard || number == asked

-- the row speaks of the question: each of its places does
abbrev pub covers : List ℕ → Row → Bool
covers question row =
    speaks_of (slice_index question 0) row.client
    && (speaks_of (slice_index question 1) row.user && speaks_of (slice_index question 2) row.privilege)
