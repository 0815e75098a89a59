use Rattle.std.proofs.Common.{◌≤◌, length, sym, subst, ◌∙◌}
use Rattle.effective_audit.proofs.Counting.{few-each}
use Rattle.effective_audit.proofs.audits.audit.Goals as goal

pub allowed_pairs-requires-clause-few : goal.allowed_pairs-requires-clause-few
allowed_pairs-requires-clause-few c =
    few-each (length c.args.clients.now) (length c.args.privileges.now) (sym c.is_empty.ensures ∙ c.if-is_empty.false)
    (subst (λ count. count ≤ 65536) c.product-product.ensures c.if-product-gt-MOST_PAIRS.false)
