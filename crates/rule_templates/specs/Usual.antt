-- The default template.
use Rattle.std.specs.Prelude.{ℕ, List, [], ◌++◌, codes}
use Rattle.std.specs.Result.{result_unwrap_or}
use Rattle.rule_templates.specs.declared.lines.TemplateLine.{TemplateLine}
use Rattle.rule_templates.specs.Template.{template_of}

-- its ten lines, which are this project's profile
abbrev pub usual_text : List ℕ
usual_text =
    codes "System ~PROCESS~ rwxat\nUser ~PROCESS~ rwxat\n~PROCESS~ System wx\n~PROCESS~ User wx\n"
    ++ (codes "~PROCESS~ User::Home rxl\nSystem ~PATH_RW~ rwxat\n~PROCESS~ ~PATH_RW~ rwxatl\n"
    ++ codes "System ~PATH_RO~ rwxat\n~PROCESS~ ~PATH_RO~ rxl\n~PROCESS~ ~AUTHOR~ rwxatl\n")

-- the template that they spell
unfoldable pub usual_template : List TemplateLine
usual_template = result_unwrap_or (template_of usual_text) []
