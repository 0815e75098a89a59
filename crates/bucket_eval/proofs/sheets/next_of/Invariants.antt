use Rattle.bucket_eval.specs.parts.Sheets.{AreNext}
use Rattle.bucket_eval.proofs.sheets.next_of.Given as goal

-- the next shapes from this one on are there
abbrev pub invariant-loop-shape : goal.invariant-loop-shape
invariant-loop-shape l = AreNext l.shapes l.next l.shape
