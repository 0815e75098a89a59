use Rattle.std.proofs.Common.{Some, sym, ap, ◌∙◌, arith}
use Rattle.std.proofs.lemmas.Option.{slice_get-get_or}
use Rattle.effective_audit.proofs.Counting.{length-policies}
use Rattle.effective_audit.proofs.narrowing.narrowed.Goals as goal

-- a bucket has no more policies than the database
pub narrowed_bucket-requires-clause-room : goal.narrowed_bucket-requires-clause-room
narrowed_bucket-requires-clause-room c =
    let buckets = c.args.buckets.now in
    let at = c.loop-bucket.bucket-index in
    let bucket = c.bucket-item.result in
    let here = slice_get-get_or buckets at bucket c.loop-bucket-test.true ∙ ap Some (sym c.bucket-item.is) in
    let few = c.requires.kept.sound.policies in
    omega (arith, length-policies buckets at bucket here, few)
