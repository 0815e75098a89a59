use Rattle.std.proofs.Common.{◌≡◌, ◌+◌, ◌≤◌, length, vec_len, vec_capacity}
use Rattle.std.specs.List.{fold}
use Rattle.std.specs.Vec.Iter.{into_iter_items}
use Rattle.std.specs.List.Sorted.{IsStrictlySortedBy}
use Rattle.bucket_store.specs.Order.{policy_cmp}
use Rattle.bucket_store.specs.parts.Batch.{edited}
use Rattle.bucket_store.proofs.in_place.edit_each.Given as goal

abbrev pub invariant-loop-change : goal.invariant-loop-change
invariant-loop-change l = record {
  items : l.policies.items ≡ fold edited l.initial.policies.items l.yielded;
  rise : IsStrictlySortedBy policy_cmp l.policies.items;
  room : vec_len l.policies + length (into_iter_items l.change-iterator) ≤ vec_capacity l.policies;
}
