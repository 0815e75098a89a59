use Rattle.std.proofs.Common.{◌∙◌}
use Rattle.rule_templates.specs.TemplateLine.{word_of, line_of}
use Rattle.rule_templates.proofs.Reading.{line_with-known, with_line-too_many}
use Rattle.rule_templates.proofs.templates.test_line.Goals as goal

pub returns-then-number-gt-LINE_LIMIT-clause-refused : goal.returns-then-number-gt-LINE_LIMIT-clause-refused
returns-then-number-gt-LINE_LIMIT-clause-refused c later =
    let parts = c.in-Ok.parts in
    let known = line_with-known (word_of parts.subject.now) (word_of parts.object.now) parts.change parts.subject_known parts.object_known in
    with_line-too_many c.args.number (line_of c.args.line.now) known.0 later (c.in-Ok.ensures ∙ known.1) c.if-number-gt-LINE_LIMIT.true
