use Rattle.std.proofs.Common.{length, sym, ap, ◌∙◌, subst, arith}
use Rattle.std.specs.List.Sorted.{IsStrictlySortedBy}
use Rattle.bucket_store.specs.Order.{policy_cmp}
use Rattle.bucket_store.specs.parts.Batch.{edited}
use Rattle.bucket_store.proofs.Changing.{edited-rises, fold-end}
use Rattle.bucket_store.proofs.in_place.edit_each.Goals as goal

pub edit-requires-clause-room : goal.edit-requires-clause-room
edit-requires-clause-room c =
    let left = ap length c.in-Some.ensures.steps.0 in omega (arith, left, c.loop-change.invariant.room)

pub loop-change-preserved : goal.loop-change-preserved
loop-change-preserved c =
    let change = c.in-Some.change in
    let left = ap length c.in-Some.ensures.steps.0 in
    record {
      items =
          c.edit.ensures.items ∙ ap (λ policies. edited policies change) c.loop-change.invariant.items
          ∙ sym (fold-end edited c.args.policies.now.items c.loop-change.yielded change);
      rise =
          subst (IsStrictlySortedBy policy_cmp) (sym c.edit.ensures.items)
          (edited-rises c.loop-change.policies.items change c.loop-change.invariant.rise);
      room = omega (arith, left, c.loop-change.invariant.room, c.edit.ensures.len, c.edit.ensures.capacity);
    }
