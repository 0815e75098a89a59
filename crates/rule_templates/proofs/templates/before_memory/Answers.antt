use Rattle.text_lines.specs.Lines.{lines_of}
use Rattle.rule_templates.proofs.Reading.{refuses_as}
use Rattle.rule_templates.proofs.templates.before_memory.Goals as goal

pub returns-in-Some : goal.returns-in-Some
returns-in-Some c = refuses_as 1 (lines_of c.args.text.now) c.in-Some.fault c.in-Some.ensures
