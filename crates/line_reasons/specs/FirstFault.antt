-- Where a line parts from every line that is known.
use Rattle.std.specs.Prelude.{◌≡◌, ◌+◌, ◌<◌, ◌≤◌, ℕ, List, ◌++◌, length, take, Option, Some, None, IsSome, Result, Ok}
use Rattle.std.specs.Prelude.{Err}
use Rattle.line_reasons.specs.declared.faults.LineFault.{LineFault}

-- a known line can begin so: the reading of lines gives something for these bytes and others behind them
abbrev pub CanBegin : {A : Type 0} → (List ℕ → Option A) → List ℕ → Type 0
CanBegin reading front = (rest : List ℕ) × IsSome (reading (front ++ rest))

-- So many bytes of the line are the most that a known line can begin with. Behind them stands a byte with which none
-- can go on, or the line ends there, too early.
pub record IsFirstFault {A : Type 0} (reading : List ℕ → Option A) (line : List ℕ) (place : ℕ) : Type 0 where
  pub wrong : reading line ≡ None
  pub within : place ≤ length line
  pub begun : CanBegin reading (take place line)
  pub parts : place < length line → (rest : List ℕ) → reading (take (place + 1) line ++ rest) ≡ None

-- no fault exactly for a line that is known, and else the first one; memory may run out for a line that is not
abbrev pub Explains : {A E : Type 0} → (List ℕ → Option A) → List ℕ → Result (Option LineFault) E → Type 0
Explains reading line (Ok None) = IsSome (reading line)
Explains reading line (Ok (Some fault)) = IsFirstFault reading line fault.place
Explains reading line (Err error) = reading line ≡ None
