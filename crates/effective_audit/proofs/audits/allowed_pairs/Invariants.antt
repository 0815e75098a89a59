use Rattle.std.proofs.Common.{◌≡◌, take}
use Rattle.bucket_store.specs.Database.{database_of}
use Rattle.effective_audit.specs.Audit.{audited}
use Rattle.effective_audit.proofs.audits.allowed_pairs.Given as goal

abbrev pub invariant-loop-client : goal.invariant-loop-client
invariant-loop-client l = l.pairs.items ≡ audited (database_of l.buckets) l.user (take l.client-index l.clients) l.privileges
