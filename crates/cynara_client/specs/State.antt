-- A client: its dialler, its link, what it keeps, and the number of its next frame.
use Rattle.std.specs.Prelude.{◌≡◌, ℕ, ◌+◌, ◌%◌, ◌^◌, Bool, if◌then◌else◌, [], Option, None}
use Rattle.answer_cache.specs.Cache.{Cache, with_entries}

pub record State (N L : Type 0) : Type 0 where
  pub dial : N
  pub link : Option L
  pub cache : Cache
  pub sequence : ℕ

-- what it keeps where the dialler is lent to each call
pub record Kept (L : Type 0) : Type 0 where
  pub link : Option L
  pub cache : Cache
  pub sequence : ℕ

-- both together
abbrev pub with_dial : {N L : Type 0} → N → Kept L → State N L
with_dial dial kept = record { dial = dial; link = kept.link; cache = kept.cache; sequence = kept.sequence }

-- numbers go from 0 to 65535, and from there to 0
abbrev pub next_number : ℕ → ℕ
next_number sequence = (sequence + 1) % 2 ^ 16

-- after a call that tried to send a frame, or didn't
abbrev pub number_after : Bool → ℕ → ℕ
number_after is_tried sequence = if is_tried then next_number sequence else sequence

-- no entry is kept
abbrev pub emptied : Cache → Cache
emptied cache = with_entries [] cache

-- the client has no link, and keeps no entry
pub record IsBare {N L : Type 0} (old new : State N L) : Type 0 where
  pub link : new.link ≡ None
  pub cache : new.cache ≡ emptied old.cache
