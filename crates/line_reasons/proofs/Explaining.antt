-- What the tests find is the first fault of what is read.
use Rattle.std.proofs.Common.{◌≡◌, ℕ, List, Option, Some, None, Result, Ok, Err}
use Rattle.std.specs.Prelude.{is_some}
use Rattle.line_reasons.specs.declared.grounds.Ground.{Ground}
use Rattle.line_reasons.specs.declared.faults.LineFault.{LineFault}
use Rattle.line_reasons.specs.FirstFault.{Explains}
use Rattle.line_reasons.specs.parts.Grounds.{is_line}
use Rattle.line_reasons.specs.parts.Places.{Finds}
use Rattle.line_reasons.proofs.KnownLines.{known_line, no_line, first_fault}

pub explains : {A E : Type 0} (reading : List ℕ → Option A) (ground : Ground)
    → ((line : List ℕ) → is_some (reading line) ≡ is_line ground line)
    → (line : List ℕ) (result : Result (Option LineFault) E) → Finds ground line result → Explains reading line result
explains reading ground reads line (Ok None) found = known_line reading ground reads line found
explains reading ground reads line (Ok (Some fault)) found =
    first_fault reading ground reads line fault.place found.wrong found.within found.begun found.parts
explains reading ground reads line (Err error) found = no_line reading ground reads line found
