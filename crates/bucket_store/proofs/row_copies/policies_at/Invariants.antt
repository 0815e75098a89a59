use Rattle.std.proofs.Common.{◌≡◌, take}
use Rattle.bucket_store.specs.parts.Rows.{at_places}
use Rattle.bucket_store.proofs.row_copies.policies_at.Given as goal

abbrev pub invariant-loop-place : goal.invariant-loop-place
invariant-loop-place l = l.copy.items ≡ at_places l.policies (take l.place-index l.places)
