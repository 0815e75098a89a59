use Rattle.bucket_store.proofs.Merging.{cut-found, cut-absent, rest-found, rest-absent}
use Rattle.bucket_store.proofs.merges.around.Goals as goal

pub returns-in-Ok-clause-before : goal.returns-in-Ok-clause-before
returns-in-Ok-clause-before c = cut-found c.args.key.now c.args.rest.now c.in-Ok.at c.in-Ok.ensures.found

pub returns-in-Ok-clause-behind : goal.returns-in-Ok-clause-behind
returns-in-Ok-clause-behind c = rest-found c.args.key.now c.args.rest.now c.in-Ok.at c.in-Ok.ensures.found

pub returns-in-Err-clause-before : goal.returns-in-Err-clause-before
returns-in-Err-clause-before c = cut-absent c.args.key.now c.args.rest.now c.in-Err.at c.in-Err.ensures.absent

pub returns-in-Err-clause-behind : goal.returns-in-Err-clause-behind
returns-in-Err-clause-behind c = rest-absent c.args.key.now c.args.rest.now c.in-Err.at c.in-Err.ensures.absent
