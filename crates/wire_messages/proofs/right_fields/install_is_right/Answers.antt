use Rattle.std.proofs.Common.{refl, rules}
use Rattle.wire_messages.proofs.right_fields.install_is_right.Goals as goal

pub returns : goal.returns
returns c few =
    (refl, (search rules, (search rules, (search rules, (search rules, c.privileges_are_right.ensures few)))))
