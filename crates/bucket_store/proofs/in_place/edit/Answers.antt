use Rattle.std.proofs.Common.{sym, ap, ◌∙◌}
use Rattle.bucket_store.specs.parts.Batch.{edited}
use Rattle.bucket_store.proofs.in_place.edit.Goals as goal

pub returns-in-Set-clause-items : goal.returns-in-Set-clause-items
returns-in-Set-clause-items c = c.put.ensures.items ∙ sym (ap (edited c.args.policies.now.items) c.in-Set.is)

pub returns-clause-items : goal.returns-clause-items
returns-clause-items c = c.take.ensures.items ∙ sym (ap (edited c.args.policies.now.items) c.in-Delete.is)
