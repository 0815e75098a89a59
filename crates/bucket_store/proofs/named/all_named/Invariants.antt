use Rattle.std.proofs.Common.{◌≡◌, take, None}
use Rattle.std.specs.List.{flat_map}
use Rattle.bucket_store.specs.Database.{database_of}
use Rattle.bucket_store.specs.Refusal.{no_bucket, named_by}
use Rattle.bucket_store.proofs.named.all_named.Given as goal

abbrev pub invariant-loop-change : goal.invariant-loop-change
invariant-loop-change l = no_bucket (flat_map named_by (take l.change-index l.changes)) (database_of l.buckets) ≡ None
