use Rattle.std.proofs.Common.{◌≡◌, Ok, ap, sym, ◌∙◌}
use Rattle.rule_templates.specs.Template.{template_of, template_text}
use Rattle.wire_messages.proofs.Templates.{template_room}
use Rattle.wire_messages.proofs.right_fields.template_is_right.Goals as goal

pub returns : goal.returns
returns c =
    let text : c.in_ok-_text._text.items ≡ template_text c.args.template.now = c.in_ok-_text.ensures.text in
    let again : template_of (template_text c.args.template.now) ≡ Ok c.args.template.now =
    ap template_of (sym text) ∙ c.in_ok-_text.ensures.again in
    (template_room c.args.template.now again, again)
