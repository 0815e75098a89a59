use Rattle.std.proofs.Common.{sym, ap, ◌∙◌}
use Rattle.cynara_keys.specs.Text.{same_text}
use Rattle.bucket_store.specs.Database.{Heading, heading_of}
use Rattle.bucket_store.proofs.Sound.{any-map}
use Rattle.desk_state.specs.Layout.{main, has_layout}
use Rattle.desk_state.proofs.desks.Desk.has_layout.Goals as goal

pub returns : goal.returns
returns c =
    c.has_bucket.ensures
    ∙ sym (any-map (λ (heading : Heading). same_text heading.name main) heading_of c.buckets.result.now)
    ∙ ap has_layout (c.buckets.ensures.buckets ∙ c.database.ensures.database)
