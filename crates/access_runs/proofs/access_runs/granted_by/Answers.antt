use Rattle.std.proofs.Common.{arith}
use Rattle.access_runs.proofs.RuleTexts.{AreGranted-within}
use Rattle.access_runs.proofs.access_runs.granted_by.Goals as goal

pub returns : goal.returns
returns c =
    AreGranted-within c.args.text.now c.args.subject.now c.args.object.now (omega arith) c.modes_in_text.result
    c.modes_in_text.ensures.modes c.modes_in_text.ensures.refused
