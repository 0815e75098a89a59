use Rattle.std.proofs.Common.{◌≡◌, map}
use Rattle.wire_fields.specs.declared.messages.Message.TheVariants.{ListRow}
use Rattle.admin_door.proofs.questions.rows.Given as goal

-- a row for each policy so far
abbrev pub invariant-loop-policy : goal.invariant-loop-policy
invariant-loop-policy l = l.replies.items ≡ map ListRow l.yielded
