-- What reading a template answers.
use Rattle.std.specs.Prelude.{◌≡◌, List, Result, Ok, Err, IsOk}
use Rattle.rule_templates.specs.declared.lines.TemplateLine.{TemplateLine}
use Rattle.rule_templates.specs.declared.templates.Template.{Template}
use Rattle.rule_templates.specs.declared.templates.TemplateRefusal.{TemplateRefusal}
use Rattle.rule_templates.specs.declared.templates.TemplateRefusal.TheVariants.{Memory}

-- A refusal is the first wrong line. Memory is wanting only where no line is wrong.
abbrev pub RefusesAs : TemplateRefusal → Result (List TemplateLine) TemplateRefusal → Type 0
RefusesAs (Memory error) template = IsOk template
RefusesAs refusal template = template ≡ Err refusal

-- What is read is the template that the text spells.
abbrev pub ReadsAs : Result Template TemplateRefusal → Result (List TemplateLine) TemplateRefusal → Type 0
ReadsAs (Ok read) template = template ≡ Ok read
ReadsAs (Err refusal) template = RefusesAs refusal template

-- One more line is there where it is right and there is room for it, and else the template stays.
abbrev pub Pushes : List TemplateLine → Result (Unit {0}) TemplateRefusal → List TemplateLine
    → Result (List TemplateLine) TemplateRefusal → Type 0
Pushes old (Ok done) new more = more ≡ Ok new
Pushes old (Err refusal) new more = (new ≡ old) × RefusesAs refusal more
