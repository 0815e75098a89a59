use Rattle.std.proofs.Common.{subst, List, ◌∙◌}
use Rattle.cynara_keys.specs.Key.{key_cmp}
use Rattle.cynara_keys.specs.declared.keys.Policy.{Policy}
use Rattle.bucket_store.specs.parts.Search.{StandsAt, BelongsAt}
use Rattle.bucket_store.proofs.Merging.{cut-found, cut-absent}
use Rattle.bucket_store.proofs.merges.cut_from.Goals as goal

pub returns-in-Ok : goal.returns-in-Ok
returns-in-Ok c =
    c.truncate.ensures.items
    ∙ cut-found c.args.key.now c.args.copy.now.items c.in-Ok.at
    (subst (λ (list : List Policy). StandsAt (λ (policy : Policy). key_cmp policy.key c.args.key.now) list c.in-Ok.at)
    c.deref.ensures.value
    c.in-Ok.ensures.found)

pub returns-in-Err : goal.returns-in-Err
returns-in-Err c =
    c.truncate-in-Err.ensures.items
    ∙ cut-absent c.args.key.now c.args.copy.now.items c.in-Err.at
    (subst (λ (list : List Policy). BelongsAt (λ (policy : Policy). key_cmp policy.key c.args.key.now) list c.in-Err.at)
    c.deref.ensures.value
    c.in-Err.ensures.absent)
