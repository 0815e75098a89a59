use Rattle.std.proofs.Common.{sym}
use Rattle.bucket_store.proofs.Sound.{has-found, has-absent}
use Rattle.bucket_store.proofs.named.has.Goals as goal

pub returns-in-Ok : goal.returns-in-Ok
returns-in-Ok c =
    let found = rw c.in-Ok.is at c.place_of_text.ensures.found in
    sym (has-found c.args.name.now c.args.buckets.now c.in-Ok.field-0 found)

pub returns-in-Err : goal.returns-in-Err
returns-in-Err c =
    let absent = rw c.in-Err.is at c.place_of_text.ensures.absent in
    sym (has-absent c.args.name.now c.args.buckets.now c.in-Err.field-0 absent)
