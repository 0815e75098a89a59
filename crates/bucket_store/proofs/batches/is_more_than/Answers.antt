use Rattle.std.proofs.Common.{sym, ap, length, arith}
use Rattle.std.proofs.lemmas.Bool.{lt-ltb}
use Rattle.std.proofs.lemmas.List.{length-map}
use Rattle.std.proofs.lemmas.List.Folds.{length-flat_map-take}
use Rattle.std.specs.List.{flat_map}
use Rattle.cynara_keys.specs.declared.keys.Policy.{Policy}
use Rattle.bucket_store.specs.Bucket.{Bucket}
use Rattle.bucket_store.specs.Database.{Placed, placed_of}
use Rattle.bucket_store.proofs.batches.is_more_than.Goals as goal

pub returns-then-count-room : goal.returns-then-count-room
returns-then-count-room c =
    let buckets = c.args.buckets.now in
    let bucket = c.bucket-item.result in
    let i = c.loop-bucket.bucket-index in
    let upto = length-flat_map-take placed_of buckets i bucket c.loop-bucket-test.true in
    let own = ap (λ (one : Bucket). length (placed_of one)) c.bucket-item.is in
    let count = length-map bucket.policies
    (λ (policy : Policy). let placed : Placed = record { bucket = bucket.name; policy = policy } in placed) in
    let read = ap length c.policies-count.ensures in
    sym (lt-ltb c.args.most (length (flat_map placed_of buckets))
    (omega (arith, upto, own, count, read, c.loop-bucket.invariant, c.if-count-room.true)))
