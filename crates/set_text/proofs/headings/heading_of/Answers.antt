use Rattle.std.proofs.Common.{refl}
use Rattle.set_text.proofs.TextLines.{fields_of-some}
use Rattle.set_text.proofs.headings.heading_of.Goals as goal

pub returns-in-Some-cut_field-2 : goal.returns-in-Some-cut_field-2
returns-in-Some-cut_field-2 c =
    let later = fields_of-some c.in-Some-cut_field-2.field-0.1.now in
    rw (c.in-Some.ensures.fields, c.in-Some-cut_field.ensures.fields, c.in-Some-cut_field-2.ensures.fields, later.2)
    refl
