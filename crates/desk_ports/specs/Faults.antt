-- Each object of the outside, as a source or a sink, counts its failed calls. The count is a `u64`.
-- It never falls. A call that fails raises it by one, except at the last value, where it stands still.
use Rattle.std.specs.Prelude.{◌≡◌, ℕ, ◌+◌, ◌-◌, ◌^◌, ◌≤◌, min, Result, Ok, Err}

-- the last value of a count, the greatest `u64`
abbrev pub last_count : ℕ
last_count = 2 ^ 64 - 1

-- the count after a call is not below the one before, and not past the last value
abbrev pub NeverFalls : ℕ → ℕ → Type 0
NeverFalls before after = (before ≤ after) × (after ≤ last_count)

-- the next value of a count: one higher, or still the last value
abbrev pub next_count : ℕ → ℕ
next_count count = min (count + 1) last_count

-- a call that did its work leaves the count, and one that failed raises it by one
abbrev pub CountsFailure : {A E : Type 0} → Result A E → ℕ → ℕ → Type 0
CountsFailure (Ok value) before after = after ≡ before
CountsFailure (Err error) before after = after ≡ next_count before
