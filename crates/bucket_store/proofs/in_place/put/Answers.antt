use Rattle.std.proofs.Common.{List, ◌∙◌, subst}
use Rattle.cynara_keys.specs.Key.{key_cmp}
use Rattle.cynara_keys.specs.declared.keys.Policy.{Policy}
use Rattle.bucket_store.specs.parts.Search.{StandsAt, BelongsAt}
use Rattle.bucket_store.proofs.Searching.{put-StandsAt, put-BelongsAt}
use Rattle.bucket_store.proofs.in_place.put.Goals as goal

pub returns-in-Ok-clause-items : goal.returns-in-Ok-clause-items
returns-in-Ok-clause-items c =
    put-StandsAt (λ (policy : Policy). key_cmp policy.key c.args.policy.key)
    (subst
    (λ (list : List Policy). StandsAt (λ (policy : Policy). key_cmp policy.key c.args.policy.key) list c.in-Ok.at)
    c.deref.ensures.value c.in-Ok.ensures.found)
    c.args.policy

pub returns-in-Ok-insert-clause-items : goal.returns-in-Ok-insert-clause-items
returns-in-Ok-insert-clause-items c =
    c.in-Ok-insert.ensures.items
    ∙ put-BelongsAt (λ (policy : Policy). key_cmp policy.key c.args.policy.key)
    (subst
    (λ (list : List Policy). BelongsAt (λ (policy : Policy). key_cmp policy.key c.args.policy.key) list c.in-Err.at)
    c.deref.ensures.value c.in-Err.ensures.absent)
    c.args.policy
