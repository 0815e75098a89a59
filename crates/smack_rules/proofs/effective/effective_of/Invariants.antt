use Rattle.std.proofs.Common.{◌≡◌, drop}
use Rattle.smack_rules.specs.Effective.{effective, effective_from}
use Rattle.smack_rules.proofs.effective.effective_of.Given as goal

-- what the rules that are left make of the modes so far
abbrev pub invariant-loop-rule : goal.invariant-loop-rule
invariant-loop-rule l =
    effective_from l.modes (drop l.rule-index l.later) l.subject l.object ≡ effective l.fn.rules l.subject l.object
