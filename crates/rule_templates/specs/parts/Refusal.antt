-- What a reading refuses that has not seen the whole text.
use Rattle.std.specs.Prelude.{◌≡◌, List, Result, Err}
use Rattle.rule_templates.specs.declared.lines.TemplateLine.{TemplateLine}
use Rattle.rule_templates.specs.declared.templates.TemplateRefusal.{TemplateRefusal}
use Rattle.rule_templates.specs.declared.templates.TemplateRefusal.TheVariants.{Memory}

-- A refusal is the first wrong line, or memory was wanting before it.
abbrev pub RefusesFreely : TemplateRefusal → Result (List TemplateLine) TemplateRefusal → Type 0
RefusesFreely (Memory error) template = Unit {0}
RefusesFreely refusal template = template ≡ Err refusal
