use Rattle.std.proofs.Common.{Ok, Err}
use Rattle.bucket_store.proofs.Ending.{placed-at}
use Rattle.bucket_store.proofs.Sound.{bucket-place}
use Rattle.bucket_store.proofs.links.place_of.Goals as goal

pub returns-then-is_at-clause-place : goal.returns-then-is_at-clause-place
returns-then-is_at-clause-place c =
    placed-at c.args.buckets.now c.requires c.unwrap_or-guess.result c.args.name.now (c.is_at.ensures.in_range c.if-is_at.true)
    (c.is_at.ensures.name c.if-is_at.true)

pub returns-in-Ok-clause-place : goal.returns-in-Ok-clause-place
returns-in-Ok-clause-place c =
    bucket-place c.args.name.now c.args.buckets.now (Ok c.in-Ok.at) c.in-Ok.ensures.found tt

pub returns-in-Err-clause-place : goal.returns-in-Err-clause-place
returns-in-Err-clause-place c =
    bucket-place c.args.name.now c.args.buckets.now (Err c.in-Err.field-0) tt c.in-Err.ensures.absent
