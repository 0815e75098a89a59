use Rattle.std.proofs.Common.{subst}
use Rattle.wire_fields.specs.Right.{IsField}
use Rattle.wire_fields.proofs.FieldLaws.{field_right}
use Rattle.wire_messages.proofs.right_fields.key_is_right.Goals as goal

pub returns : goal.returns
returns c = (
  subst IsField c.client-client.ensures.reads_back
      (field_right c.client-client.result.now c.client-client.ensures.accepted),
  (
    subst IsField c.user-user.ensures.reads_back (field_right c.user-user.result.now c.user-user.ensures.accepted),
    subst IsField c.privilege-privilege.ensures.reads_back
        (field_right c.privilege-privilege.result.now c.privilege-privilege.ensures.accepted),
  ),
)
