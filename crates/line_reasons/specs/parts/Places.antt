-- The first fault of a line, in the words of this crate's tests.
use Rattle.std.specs.Prelude.{◌≡◌, ◌+◌, ◌<◌, ◌≤◌, ℕ, true, false, List, length, take, Option, Some, None, Result, Ok}
use Rattle.std.specs.Prelude.{Err}
use Rattle.line_reasons.specs.declared.grounds.Ground.{Ground}
use Rattle.line_reasons.specs.declared.faults.LineFault.{LineFault}
use Rattle.line_reasons.specs.parts.Grounds.{is_line, begins_line}

pub record IsPlace (ground : Ground) (line : List ℕ) (place : ℕ) : Type 0 where
  pub wrong : is_line ground line ≡ false
  pub within : place ≤ length line
  pub begun : begins_line ground (take place line) ≡ true
  pub parts : place < length line → begins_line ground (take (place + 1) line) ≡ false

abbrev pub Finds : {E : Type 0} → Ground → List ℕ → Result (Option LineFault) E → Type 0
Finds ground line (Ok None) = is_line ground line ≡ true
Finds ground line (Ok (Some fault)) = IsPlace ground line fault.place
Finds ground line (Err error) = is_line ground line ≡ false
