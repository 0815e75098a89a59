use Rattle.bucket_eval.proofs.Filing.{ready-set}
use Rattle.bucket_eval.proofs.deciding.keep.Goals as goal

pub returns-clause-ready : goal.returns-clause-ready
returns-clause-ready c =
    ready-set c.args.asking.now c.args.slots.now c.args.at c.args.known c.requires.ready c.requires.there c.requires.answers
