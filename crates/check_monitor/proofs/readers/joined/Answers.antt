use Rattle.std.proofs.Common.{ap, ◌∙◌}
use Rattle.monitor_rule.specs.declared.knowing.View.{View}
use Rattle.monitor_rule.proofs.Steps.{joins}
use Rattle.check_monitor.proofs.readers.joined.Goals as goal

pub absorb-requires-clause-rule : goal.absorb-requires-clause-rule
absorb-requires-clause-rule c =
    let is = c.loop-recorder.invariant.1 in
    joins _ _ _ _ (ap (λ (v : View). v.reads) is ∙ c.requires.reads.0) (ap (λ (v : View). v.ends) is ∙ c.requires.reads.1) c.into_pass.ensures.records
