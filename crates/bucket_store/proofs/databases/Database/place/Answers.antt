use Rattle.std.proofs.Common.{◌∙◌}
use Rattle.bucket_store.proofs.Sound.{heading-place}
use Rattle.bucket_store.proofs.databases.Database.place.Goals as goal

pub returns : goal.returns
returns c =
    rw (← c.self.view_is) (rw (← c.deref.ensures.value)
    (c.ok.ensures.value
    ∙ heading-place c.args.name.now c.deref.result.now c.place_of_bucket.result c.place_of_bucket.ensures.found
    c.place_of_bucket.ensures.absent))
