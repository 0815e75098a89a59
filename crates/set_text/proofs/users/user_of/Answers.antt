use Rattle.std.proofs.Common.{refl}
use Rattle.set_text.proofs.TextLines.{fields_of-some}
use Rattle.set_text.proofs.users.user_of.Goals as goal

pub returns-in-Some-cut_field : goal.returns-in-Some-cut_field
returns-in-Some-cut_field c =
    let later = fields_of-some c.in-Some-cut_field.field-0.1.now in
    rw (c.in-Some.ensures.fields, c.in-Some-cut_field.ensures.fields, later.2) refl
