use Rattle.std.proofs.Common.{rules, ◌≡◌, subst, List}
use Rattle.std.specs.Ordering.{is_lt}
use Rattle.std.specs.List.Sorted.{IsStableBy}
use Rattle.std.proofs.lemmas.List.Sorted.{answers_always, ranks_by}
use Rattle.cynara_keys.proofs.Order.{key_total}
use Rattle.bucket_store.specs.parts.Batch.{key_of}
use Rattle.bucket_store.specs.parts.Merge.{comes_first}
use Rattle.bucket_store.specs.declared.policy_changes.Change.{Change}
use Rattle.bucket_store.proofs.Merging.{in-order}
use Rattle.bucket_store.proofs.merges.sorted.Goals as goal

pub returns-clause-order : goal.returns-clause-order
returns-clause-order c =
    in-order c.sort_by.new.self.items
    (c.in_ok-sort_by.ensures.sorted comes_first (ranks_by key_total key_of)
    (answers_always _ (λ a r. is_lt r ≡ comes_first a.0.now a.1.0.now) _ (λ f a r g called. search rules)))

pub returns-clause-stable : goal.returns-clause-stable
returns-clause-stable c =
    subst (λ (list : List Change). IsStableBy comes_first list c.sort_by.new.self.items) c.in_ok-own.ensures
    (c.in_ok-sort_by.ensures.stable comes_first (ranks_by key_total key_of)
    (answers_always _ (λ a r. is_lt r ≡ comes_first a.0.now a.1.0.now) _ (λ f a r g called. search rules)))
