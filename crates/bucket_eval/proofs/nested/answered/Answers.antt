use Rattle.std.proofs.Common.{◌≡◌, IfSome, sym, ◌∙◌, subst}
use Rattle.bucket_store.specs.Bucket.{Bucket}
use Rattle.bucket_store.specs.Walk.{target}
use Rattle.bucket_eval.specs.parts.Buckets.{IsHeld}
use Rattle.bucket_eval.specs.parts.Slots.{answer_to}
use Rattle.bucket_eval.proofs.Depth.{step-of}
use Rattle.bucket_eval.proofs.Held.{followed-holds}
use Rattle.bucket_eval.proofs.Targets.{target-at, target-there}
use Rattle.bucket_eval.proofs.nested.answered.Goals as goal

-- a policy's target is there
pub unreachable-requires : goal.unreachable-requires
unreachable-requires c =
    target-there c.args.asked.now.buckets.now c.args.at c.args.bucket.now c.args.place c.args.policy.now c.requires.kept
    c.requires.bucket c.requires.policy (sym c.points.ensures ∙ c.if-not-points.false) c.as_slice.result.now
    (c.as_slice.ensures.bytes ∙ c.metadata.ensures.metadata) (sym c.place_of_bucket.ensures ∙ c.in-None.is)

-- what its target answers
pub returns-in-Some-known : goal.returns-in-Some-known
returns-in-Some-known c =
    let found = target-at c.args.asked.now.buckets.now c.as_slice.result.now c.in-Some.below
    (sym c.place_of_bucket.ensures ∙ c.in-Some.is) in
    let name : found.0.name ≡ target c.args.policy.now =
    found.2 ∙ c.as_slice.ensures.bytes ∙ c.metadata.ensures.metadata in
    let held : IsHeld c.args.asked.now.buckets.now (answer_to c.args.asked.now found.0.name) c.in-Some-known.held =
    subst (λ o. IfSome o (λ (bucket : Bucket).
    IsHeld c.args.asked.now.buckets.now (answer_to c.args.asked.now bucket.name) c.in-Some-known.held)) found.1
    c.in-Some-known.ensures.held in
    followed-holds c.args.asked.now.buckets.now (answer_to c.args.asked.now) c.args.asked.now.deep c.args.bucket.now.name
    c.args.policy.now c.in-Some-known.held (sym c.points.ensures ∙ c.if-not-points.false) c.if-not-asked.false
    (subst (λ n. IsHeld c.args.asked.now.buckets.now (answer_to c.args.asked.now n) c.in-Some-known.held) name held)

-- its target has to answer before
pub returns-in-None-known : goal.returns-in-None-known
returns-in-None-known c =
    let found = target-at c.args.asked.now.buckets.now c.as_slice.result.now c.in-Some.below
    (sym c.place_of_bucket.ensures ∙ c.in-Some.is) in
    record {
      bucket = found.0;
      there = found.1;
      step = record { bucket = c.args.bucket.now.name; policy = c.args.policy.now };
      is = step-of c.args.asked.now.buckets.now c.args.at c.args.bucket.now c.args.place c.args.policy.now c.requires.bucket
          c.requires.policy (sym c.points.ensures ∙ c.if-not-points.false);
      target = sym (found.2 ∙ c.as_slice.ensures.bytes ∙ c.metadata.ensures.metadata);
      unknown = c.in-None-known.ensures.unknown;
    }
