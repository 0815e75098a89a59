use Rattle.std.proofs.Common.{sym, ◌∙◌, arith}
use Rattle.std.proofs.lemmas.List.{length-map}
use Rattle.bucket_store.specs.Database.{heading_of}
use Rattle.bucket_eval.proofs.Tabling.{target-is}
use Rattle.bucket_eval.proofs.Targets.{target-at, target-there}
use Rattle.bucket_eval.proofs.sheets.target_of.Goals as goal

-- a policy's target is there
pub unreachable-requires : goal.unreachable-requires
unreachable-requires c =
    target-there c.args.buckets.now c.args.at c.args.bucket.now c.args.place c.args.policy.now c.requires.kept
    c.requires.bucket c.requires.policy (sym c.points.ensures ∙ c.if-not-points.false) c.as_slice.result.now
    (c.as_slice.ensures.bytes ∙ c.metadata.ensures.metadata) (sym c.place_of_bucket.ensures ∙ c.in-None.is)

pub returns : goal.returns
returns c =
    let found = target-at c.args.buckets.now c.as_slice.result.now c.in-Some.below
    (sym c.place_of_bucket.ensures ∙ c.in-Some.is) in
    let most = c.requires.kept.sound.buckets in
    let count = length-map c.args.buckets.now heading_of in
    let within = found.3 in
    target-is c.args.buckets.now c.args.policy.now c.in-Some.below (omega (arith, most, count, within))
    (record {
      points = sym c.points.ensures ∙ c.if-not-points.false;
      bucket = found.0;
      there = found.1;
      name = found.2 ∙ c.as_slice.ensures.bytes ∙ c.metadata.ensures.metadata;
    })
