use Rattle.std.proofs.Common.{subst}
use Rattle.line_script.specs.Grammar.{any_length_step_at}
use Rattle.line_reasons.specs.parts.Grounds.{ground_of}
use Rattle.line_reasons.specs.parts.Places.{Finds}
use Rattle.line_reasons.specs.declared.grounds.Ground.{Ground}
use Rattle.line_reasons.proofs.KnownLines.{steps_are}
use Rattle.line_reasons.proofs.Explaining.{explains}
use Rattle.line_reasons.proofs.faults.script_fault.Goals as goal

pub returns : goal.returns
returns c = λ block at.
    let Found : Ground → Type 0 = λ ground. Finds ground c.args.line.now c.fault_at.result in
    explains (any_length_step_at block) (ground_of c.args.spot)
    (steps_are block c.args.spot at) c.args.line.now c.fault_at.result
    (subst Found c.of.ensures c.fault_at.ensures)
