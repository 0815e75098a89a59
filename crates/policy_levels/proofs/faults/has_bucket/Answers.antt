use Rattle.std.proofs.Common.{sym, ap, ◌∙◌}
use Rattle.cynara_keys.specs.Text.{same_text}
use Rattle.bucket_store.specs.Database.{Heading, heading_of, has_bucket}
use Rattle.bucket_store.proofs.Sound.{any-map}
use Rattle.policy_levels.proofs.faults.has_bucket.Goals as goal

pub returns : goal.returns
returns c =
    c.any_bucket.ensures
    ∙ sym (any-map (λ (heading : Heading). same_text heading.name c.args.name.now) heading_of c.buckets.result.now)
    ∙ ap (has_bucket c.args.name.now) c.buckets.ensures.buckets
