use Rattle.std.proofs.Common.{refl}
use Rattle.set_text.proofs.TextLines.{fields_of-some}
use Rattle.set_text.proofs.policies.policy_of.Goals as goal

pub returns-in-Some-cut_field-4 : goal.returns-in-Some-cut_field-4
returns-in-Some-cut_field-4 c =
    let later = fields_of-some c.in-Some-cut_field-4.field-0.1.now in
    rw (
      c.in-Some.ensures.fields,
      c.in-Some-cut_field.ensures.fields,
      c.in-Some-cut_field-2.ensures.fields,
      c.in-Some-cut_field-3.ensures.fields,
      c.in-Some-cut_field-4.ensures.fields,
      later.2,
    ) refl
