-- Templates: at most 64 lines, each a rule whose labels may be placeholders.
use Rattle.std.specs.Prelude.{ℕ, ◌+◌, Bool, ◌&&◌, nat_lt, nat_le, List, []}
use Rattle.std.specs.Prelude.{◌∷◌, ◌++◌, length, Result, Ok, Err, if◌then◌else◌}
use Rattle.std.specs.List.{list_all, flat_map}
use Rattle.text_lines.specs.Lines.{lines_of}
use Rattle.rule_templates.specs.Limits.{most_template_lines}
use Rattle.rule_templates.specs.declared.lines.TemplateLine.{TemplateLine}
use Rattle.rule_templates.specs.declared.lines.LineFault.{LineFault}
use Rattle.rule_templates.specs.declared.lines.LineFault.TheVariants.{Form, UnknownPlaceholder}
use Rattle.rule_templates.specs.declared.templates.TemplateRefusal.{TemplateRefusal}
use Rattle.rule_templates.specs.declared.templates.TemplateRefusal.TheVariants.{BadLine, BadPlaceholder, TooMany}
use Rattle.rule_templates.specs.TemplateLine.{line_of, line_text, is_kept_line}

-- lines, and those that come behind them
abbrev pub with_front : List TemplateLine → Result (List TemplateLine) TemplateRefusal
    → Result (List TemplateLine) TemplateRefusal
with_front front (Ok lines) = Ok (front ++ lines)
with_front front (Err refusal) = Err refusal

-- A line and those behind it. Where the line is wrong, its number is named; a right one past the limit is one too many.
abbrev pub with_line : ℕ → Result TemplateLine LineFault → Result (List TemplateLine) TemplateRefusal
    → Result (List TemplateLine) TemplateRefusal
with_line number (Err Form) later = Err (BadLine number)
with_line number (Err UnknownPlaceholder) later = Err (BadPlaceholder number)
with_line number (Ok line) later =
    if nat_lt most_template_lines number then Err (TooMany number) else with_front (line ∷ []) later

-- the lines of a template, numbered from a number on
abbrev pub template_from : ℕ → List (List ℕ) → Result (List TemplateLine) TemplateRefusal
template_from number [] = Ok []
template_from number (line ∷ lines) = with_line number (line_of line) (template_from (number + 1) lines)

-- the template that a text spells, or its first wrong line with the number from 1
abbrev pub template_of : List ℕ → Result (List TemplateLine) TemplateRefusal
template_of text = template_from 1 (lines_of text)

-- the one spelling of a template: each line with a newline
abbrev pub template_text : List TemplateLine → List ℕ
template_text lines = flat_map (λ line. line_text line ++ 10 ∷ []) lines

-- what a template is: at most 64 lines of labels without `~` at the front, and of placeholders
abbrev pub is_template : List TemplateLine → Bool
is_template lines = nat_le (length lines) most_template_lines && list_all is_kept_line lines

-- a further line would be one too many
abbrev pub is_full : List TemplateLine → Bool
is_full lines = nat_lt most_template_lines (length lines + 1)

-- the lines of a template and one more line, or why it is none
abbrev pub with_one_more : List TemplateLine → List ℕ → Result (List TemplateLine) TemplateRefusal
with_one_more lines line = with_front lines (with_line (length lines + 1) (line_of line) (Ok []))
