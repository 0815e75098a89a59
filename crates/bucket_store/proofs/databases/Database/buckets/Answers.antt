use Rattle.std.proofs.Common.{subst}
use Rattle.bucket_store.specs.WellFormed.{IsWellFormed}
use Rattle.bucket_store.proofs.Sound.{well_formed}
use Rattle.bucket_store.proofs.databases.Database.buckets.Goals as goal

pub returns-clause-well_formed : goal.returns-clause-well_formed
returns-clause-well_formed c =
    subst IsWellFormed c.self.view_is (well_formed c.self.inside.buckets.items c.self.invariant)
