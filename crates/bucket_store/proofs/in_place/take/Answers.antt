use Rattle.std.proofs.Common.{◌++◌, List, sym, ◌∙◌, subst}
use Rattle.std.proofs.lemmas.List.{take-append-drop}
use Rattle.cynara_keys.specs.Key.{key_cmp}
use Rattle.cynara_keys.specs.declared.keys.Policy.{Policy}
use Rattle.bucket_store.specs.parts.Search.{StandsAt, BelongsAt}
use Rattle.bucket_store.proofs.Merging.{cut-found, cut-absent, rest-found, rest-absent}
use Rattle.bucket_store.proofs.in_place.take.Goals as goal

pub returns-in-Ok-clause-items : goal.returns-in-Ok-clause-items
returns-in-Ok-clause-items c =
    let key = c.args.key.now in
    let policies = c.args.policies.now.items in
    let stands =
    subst (λ (list : List Policy). StandsAt (λ (policy : Policy). key_cmp policy.key key) list c.in-Ok.at)
    c.deref.ensures.value c.in-Ok.ensures.found in
    c.remove.ensures.by_index.2
    ∙ (λ i. cut-found key policies c.in-Ok.at stands i ++ rest-found key policies c.in-Ok.at stands i)

pub returns-in-Err-clause-items : goal.returns-in-Err-clause-items
returns-in-Err-clause-items c =
    let key = c.args.key.now in
    let policies = c.args.policies.now.items in
    let at = c.in-Err.field-0 in
    let belongs =
    subst (λ (list : List Policy). BelongsAt (λ (policy : Policy). key_cmp policy.key key) list at)
    c.deref.ensures.value c.in-Err.ensures.absent in
    sym (take-append-drop at policies)
    ∙ (λ i. cut-absent key policies at belongs i ++ rest-absent key policies at belongs i)
