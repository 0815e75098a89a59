use Rattle.std.proofs.Common.{sym, ap, ◌∙◌}
use Rattle.std.specs.Ordering.{is_gt, nat_cmp, ordering_then}
use Rattle.bucket_eval.proofs.KeyOrder.{bare-tie}
use Rattle.bucket_eval.proofs.deciding.comes_after_bare.Goals as goal

pub returns : goal.returns
returns c =
    c.is_gt.ensures ∙ ap is_gt c.cmp.ensures
    ∙ ap (λ o. is_gt (ordering_then o (nat_cmp c.args.place c.args.other_place)))
    (sym (bare-tie c.args.outcome.now c.args.other.now c.requires.alike c.requires.bare c.metadata.ensures.carried
    c.metadata-2.ensures.carried))
