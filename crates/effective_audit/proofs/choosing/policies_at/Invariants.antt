use Rattle.std.proofs.Common.{◌≡◌, take}
use Rattle.bucket_store.specs.parts.Rows.{at_places}
use Rattle.effective_audit.proofs.choosing.policies_at.Given as goal

abbrev pub invariant-loop-place : goal.invariant-loop-place
invariant-loop-place l = l.copies.items ≡ at_places l.policies (take l.place-index l.places)
