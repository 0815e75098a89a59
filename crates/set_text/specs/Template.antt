-- The file `template`, which has a line for each line of the template, and the load file of a package, which has a line
-- for each of its rules.
use Rattle.std.specs.Prelude.{ℕ, Bool, nat_lt, if◌then◌else◌, List, length, Option, Some, None, Result, Ok, Err}
use Rattle.cynara_keys.specs.Text.{same_text}
use Rattle.smack_rules.specs.Spelling.{rule_text}
use Rattle.smack_rules.specs.declared.rule.Rule.{Rule}
use Rattle.rule_templates.specs.TemplateLine.{line_of, line_text}
use Rattle.rule_templates.specs.declared.lines.TemplateLine.{TemplateLine}
use Rattle.rule_templates.specs.Limits.{most_template_lines}
use Rattle.set_text.specs.Lines.{text_of, values_of, kept}

abbrev pub load_text : List Rule → List ℕ
load_text rules = text_of rule_text rules

-- the template line, where it is one and the text is its one spelling
abbrev pub spelt_line : {E : Type 0} → List ℕ → Result TemplateLine E → Option TemplateLine
spelt_line text (Err fault) = None
spelt_line text (Ok line) = if same_text (line_text line) text then Some line else None

abbrev pub template_line_of : List ℕ → Option TemplateLine
template_line_of text = spelt_line text (line_of text)

-- There are no more lines than there may be.
abbrev pub template_line_fits : List TemplateLine → TemplateLine → Bool
template_line_fits before line = nat_lt (length before) most_template_lines

abbrev pub read_template_line : List TemplateLine → List ℕ → Option TemplateLine
read_template_line before text = kept (template_line_fits before) (template_line_of text)

abbrev pub template_lines_of : List ℕ → Result (List TemplateLine) ℕ
template_lines_of text = values_of read_template_line text
