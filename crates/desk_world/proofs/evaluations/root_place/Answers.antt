use Rattle.std.proofs.Common.{sym, ap, ◌∙◌}
use Rattle.std.specs.List.{position}
use Rattle.cynara_keys.specs.Text.{same_text}
use Rattle.bucket_store.specs.Database.{Heading}
use Rattle.desk_world.proofs.Roots.{root_there, root_not_none}
use Rattle.desk_world.proofs.evaluations.root_place.Goals as goal

pub unreachable-requires : goal.unreachable-requires
unreachable-requires c =
    root_not_none c.args.database.now c.requires
    (ap (λ name. position (λ (heading : Heading). same_text heading.name name) c.args.database.now.buckets)
    (sym c.root-name.ensures) ∙ (sym c.place.ensures ∙ c.in-None.is))

pub returns : goal.returns
returns c =
    let there = root_there c.args.database.now c.in-Some.place
    (ap (λ name. position (λ (heading : Heading). same_text heading.name name) c.args.database.now.buckets)
    (sym c.root-name.ensures) ∙ (sym c.place.ensures ∙ c.in-Some.is)) in
    record { in_range = there.0; root = there.1 }
