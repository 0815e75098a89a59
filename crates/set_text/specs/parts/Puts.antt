-- What is put behind the lines of a template.
use Rattle.std.specs.Prelude.{◌≡◌, ℕ, List, [], ◌∷◌, ◌++◌, Some}
use Rattle.rule_templates.specs.declared.lines.TemplateLine.{TemplateLine}
use Rattle.rule_templates.specs.declared.templates.TemplateRefusal.{TemplateRefusal}
use Rattle.rule_templates.specs.declared.templates.TemplateRefusal.TheVariants.{Memory}
use Rattle.set_text.specs.Template.{read_template_line}

-- the template line of a text is put behind those before it
pub record PutsLine (before : List TemplateLine) (text : List ℕ) (after : List TemplateLine) : Type 0 where
  pub line : TemplateLine
  pub reads : read_template_line before text ≡ Some line
  pub put : after ≡ before ++ line ∷ []

-- a line is refused for what it says, or as one too many
abbrev pub IsWrongLine : TemplateRefusal → Type 0
IsWrongLine (Memory error) = ⊥
IsWrongLine refusal = Unit {0}
