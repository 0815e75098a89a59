use Rattle.std.proofs.Common.{sym, ◌∙◌}
use Rattle.bucket_eval.specs.parts.Slots.{none_or}
use Rattle.bucket_eval.proofs.Known.{spot-bucket, spot-policy, told-at, told-held}
use Rattle.bucket_eval.proofs.Known.{spot-held-fallback, spot-held-policy}
use Rattle.bucket_eval.proofs.slots.known.Goals as goal

pub bucket_at-bucket-requires : goal.bucket_at-bucket-requires
bucket_at-bucket-requires c =
    let told = told-at c.args.asked.now c.args.slots.now c.args.at c.slot_at-slot.result c.in-Some.of c.requires.sound
    c.requires.there c.slot_at-slot.ensures (sym c.in-Some.is ∙ c.bucket.ensures) in
    spot-bucket c.args.asked.now.buckets.now _ _ told.is

pub policy_at-requires : goal.policy_at-requires
policy_at-requires c =
    let told = told-at c.args.asked.now c.args.slots.now c.args.at c.slot_at-slot.result c.in-Some.of c.requires.sound
    c.requires.there c.slot_at-slot.ensures (sym c.in-Some.is ∙ c.bucket.ensures) in
    spot-policy c.args.asked.now.buckets.now
    (record { bucket = c.in-Some.of; policy = none_or c.slot_at-slot.result.policy }) c.bucket_at-bucket.result.now
    c.in-Some-policy.place _ c.bucket_at-bucket.ensures (sym c.policy.ensures ∙ c.in-Some-policy.is) told.is

pub returns-in-Some-policy-clause-held : goal.returns-in-Some-policy-clause-held
returns-in-Some-policy-clause-held c =
    let told = told-at c.args.asked.now c.args.slots.now c.args.at c.slot_at-slot.result c.in-Some.of c.requires.sound
    c.requires.there c.slot_at-slot.ensures (sym c.in-Some.is ∙ c.bucket.ensures) in
    told-held c.args.asked.now c.args.at _ c.own.result told
    (spot-held-policy c.args.asked.now.buckets.now
    (record { bucket = c.in-Some.of; policy = none_or c.slot_at-slot.result.policy }) c.bucket_at-bucket.result.now
    c.in-Some-policy.place c.policy_at.result.now _ c.own.result c.bucket_at-bucket.ensures
    (sym c.policy.ensures ∙ c.in-Some-policy.is) told.is c.policy_at.ensures c.own.ensures.kind c.own.ensures.bucket
    c.own.ensures.policy c.own.ensures.result)

pub returns-in-None-clause-held : goal.returns-in-None-clause-held
returns-in-None-clause-held c =
    let told = told-at c.args.asked.now c.args.slots.now c.args.at c.slot_at-slot.result c.in-Some.of c.requires.sound
    c.requires.there c.slot_at-slot.ensures (sym c.in-Some.is ∙ c.bucket.ensures) in
    told-held c.args.asked.now c.args.at _ c.fallback.result told
    (spot-held-fallback c.args.asked.now.buckets.now
    (record { bucket = c.in-Some.of; policy = none_or c.slot_at-slot.result.policy }) c.bucket_at-bucket.result.now
    _ c.fallback.result c.bucket_at-bucket.ensures (sym c.policy.ensures ∙ c.in-None.is) told.is c.fallback.ensures.kind
    c.fallback.ensures.bucket c.fallback.ensures.policy c.fallback.ensures.result)
