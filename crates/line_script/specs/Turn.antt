-- What the reading of a line gives.
use Rattle.std.specs.Prelude.{IsTrue, ◌≡◌, Bool, true, false, Option, Some, None, Result, Ok, Err}
use Rattle.line_script.specs.Block.{Block, outside, batch, template, failed}
use Rattle.smack_rules.specs.Modes.{is_request}
use Rattle.line_script.specs.declared.steps.Step.{Step}
use Rattle.line_script.specs.declared.steps.Step.TheVariants.{Access}
use Rattle.script_words.specs.declared.refusals.LineRefusal.{LineRefusal}
use Rattle.script_words.specs.declared.refusals.LineRefusal.TheVariants.{Syntax, Memory}

-- The step of the line and the new place, as the grammar has them. After a refusal no line is read any more; memory may
-- run out at any line.
abbrev pub Turns : Option (Block × Step) → Result Step LineRefusal → Block → Type 0
Turns reading (Ok step) new = reading ≡ Some (new, step)
Turns reading (Err Syntax) new = (reading ≡ None) × (new ≡ failed)
Turns reading (Err (Memory error)) new = new ≡ failed

-- within a block
abbrev pub is_in_block : Block → Bool
is_in_block (outside place) = false
is_in_block (batch place changes) = true
is_in_block (template place lines) = true
is_in_block failed = false

-- a decision is asked for only where the modes are a request
abbrev pub AsksRequest : Step → Type 0
AsksRequest (Access subject object asked) = IsTrue (is_request asked)
AsksRequest other = Unit {0}
