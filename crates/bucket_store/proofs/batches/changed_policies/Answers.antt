use Rattle.std.proofs.Common.{IfOk, List, ◌≡◌, ◌∙◌, ap, subst}
use Rattle.std.specs.List.{fold}
use Rattle.cynara_keys.specs.declared.keys.Policy.{Policy}
use Rattle.bucket_store.specs.parts.Batch.{edited, own}
use Rattle.bucket_store.proofs.Sorting.{sorted-same}
use Rattle.bucket_store.proofs.batches.changed_policies.Goals as goal

pub returns : goal.returns
returns c =
    let policies = c.args.policies.now in
    let changes = own c.args.name.now c.args.changes.now in
    let same : fold edited policies c.deref.result.now ≡ fold edited policies changes =
    ap (fold edited policies) c.deref.ensures.value
    ∙ sorted-same policies changes c.in_ok-own.own.items c.requires c.in_ok-own.ensures.stable in
    subst (λ (list : List Policy). IfOk c.merged.result (λ copy. copy.items ≡ list)) same c.merged.ensures
