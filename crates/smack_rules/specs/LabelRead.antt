-- What reading a label answers.
use Rattle.std.specs.Prelude.{◌≡◌, ℕ, List, Some, None, Result, Ok, Err}
use Rattle.smack_rules.specs.declared.label.Label.{Label}
use Rattle.smack_rules.specs.declared.label.LabelRefusal.{LabelRefusal}
use Rattle.smack_rules.specs.declared.label.LabelRefusal.TheVariants.{Memory}
use Rattle.smack_rules.specs.Label.{label_fault}

-- A refusal is the first fault. Out of memory comes only where there is none.
abbrev pub RefusesAs : LabelRefusal → List ℕ → Type 0
RefusesAs (Memory error) bytes = label_fault bytes ≡ None
RefusesAs refusal bytes = label_fault bytes ≡ Some refusal

-- What is read has the bytes, and they have no fault.
abbrev pub ReadsAs : Result Label LabelRefusal → List ℕ → Type 0
ReadsAs (Ok label) bytes = (label ≡ bytes) × (label_fault bytes ≡ None)
ReadsAs (Err refusal) bytes = RefusesAs refusal bytes
