use Rattle.std.specs.Result.{result_ok}
use Rattle.smack_rules.specs.Rule.{line_rule}
use Rattle.line_reasons.specs.declared.grounds.Ground.TheVariants.{Rules}
use Rattle.line_reasons.proofs.KnownLines.{rules_are}
use Rattle.line_reasons.proofs.Explaining.{explains}
use Rattle.line_reasons.proofs.faults.rule_fault.Goals as goal

pub returns : goal.returns
returns c = explains (λ line. result_ok
    (line_rule line)) Rules rules_are c.args.line.now c.fault_at.result c.fault_at.ensures
