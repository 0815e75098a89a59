use Rattle.std.proofs.Common.{Ok, Err}
use Rattle.text_lines.specs.Lines.{lines_of}
use Rattle.rule_templates.proofs.Fixed.{rules_from-fixed}
use Rattle.rule_templates.proofs.TextSpelled.{reads_canonical}
use Rattle.rule_templates.proofs.templates.Template.read.Goals as goal

pub returns-in-Ok-clause-canonical : goal.returns-in-Ok-clause-canonical
returns-in-Ok-clause-canonical c lines sound is =
    reads_canonical (Ok c.in-Ok.template) c.args.text.now lines c.in-Ok.ensures sound is

pub returns-in-Ok-clause-rules : goal.returns-in-Ok-clause-rules
returns-in-Ok-clause-rules c fixed registry name =
    rules_from-fixed 1 (lines_of c.args.text.now) c.in-Ok.template registry name c.in-Ok.ensures fixed

pub returns-in-Err-clause-canonical : goal.returns-in-Err-clause-canonical
returns-in-Err-clause-canonical c lines sound is =
    reads_canonical (Err c.before_memory.result) c.args.text.now lines c.before_memory.ensures sound is
