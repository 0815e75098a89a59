use Rattle.std.proofs.Common.{◌≡◌, ◌++◌, take}
use Rattle.bucket_store.specs.Database.{database_of}
use Rattle.effective_audit.specs.Audit.{allowed_to}
use Rattle.effective_audit.proofs.audits.append_allowed.Given as goal

abbrev pub invariant-loop-privilege : goal.invariant-loop-privilege
invariant-loop-privilege l =
    l.pairs.items ≡ l.initial.pairs.items
    ++ allowed_to (database_of l.buckets) l.user (take l.privilege-index l.privileges) l.client
