use Rattle.std.proofs.Common.{List, ap, sym, ◌∙◌}
use Rattle.std.specs.List.{position}
use Rattle.cynara_keys.specs.Text.{same_text}
use Rattle.bucket_store.specs.Database.{Heading}
use Rattle.effective_audit.proofs.Beginning.{root-somewhere}
use Rattle.effective_audit.proofs.choosing.answers_allow.Goals as goal

pub unreachable-requires : goal.unreachable-requires
unreachable-requires c =
    root-somewhere c.args.database.now c.buckets-buckets.ensures.well_formed.sound.root
    (ap (λ name. position (λ (heading : Heading). same_text heading.name name) c.args.database.now.buckets) (sym c.root-root.ensures)
    ∙ (sym c.place.ensures ∙ c.in_default.is))
