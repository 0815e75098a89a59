use Rattle.std.proofs.Common.{ap, ◌∙◌}
use Rattle.cynara_keys.specs.Key.{filter_admits}
use Rattle.cynara_keys.specs.declared.keys.Policy.{Policy}
use Rattle.bucket_store.specs.parts.Rows.{besides}
use Rattle.bucket_store.proofs.RowChoice.{besides-passing}
use Rattle.bucket_store.proofs.selections.not_admitted.Goals as goal

pub returns : goal.returns
returns c =
    c.in_ok-copy.ensures
    ∙ ap (λ places. besides 0 places c.args.policies.now) (c.deref.ensures.value ∙ c.in_ok-places.ensures)
    ∙ besides-passing (λ (policy : Policy). filter_admits c.args.filter.now policy.key) c.args.policies.now
