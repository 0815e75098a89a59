use Rattle.std.proofs.Common.{◌∙◌}
use Rattle.bucket_eval.proofs.deciding.fallback_at.Goals as goal

pub returns-clause-kind : goal.returns-clause-kind
returns-clause-kind c = λ bucket there.
    c.of.ensures.kind
    ∙ (c.requires.right.sheets.each c.args.at bucket c.sheet_at.result.now there c.sheet_at.ensures).fallback
