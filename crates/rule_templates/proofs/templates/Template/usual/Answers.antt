use Rattle.std.proofs.Common.{[], ap, sym}
use Rattle.std.specs.Result.{result_unwrap_or}
use Rattle.rule_templates.specs.Usual.{usual_template}
use Rattle.rule_templates.proofs.templates.Template.usual.Goals as goal

pub returns-in-Ok-clause-usual : goal.returns-in-Ok-clause-usual
unfolding usual_template
returns-in-Ok-clause-usual c = sym (ap (λ meaning. result_unwrap_or meaning []) c.in-Ok.ensures.read)
