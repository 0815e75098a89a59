use Rattle.std.proofs.Common.{None, Some, refl, sym, ap, ◌∙◌}
use Rattle.std.specs.Option.{option_map}
use Rattle.std.proofs.lemmas.Option.{slice_get_read}
use Rattle.cynara_keys.specs.declared.keys.Policy.{Policy}
use Rattle.bucket_eval.specs.Evaluation.{Outcome}
use Rattle.bucket_eval.proofs.Places.{bucket-there, policy-there, outcome_at-bucket}
use Rattle.bucket_eval.proofs.lending.lend.Goals as goal

-- the policy at the place is there
pub policy_at-policy-requires : goal.policy_at-policy-requires
policy_at-policy-requires c =
    let within = bucket-there c.args.database.now c.buckets.result.now c.args.found c.buckets.ensures.buckets
    c.requires in
    let there = slice_get_read c.buckets.result.now _ c.args.found.bucket c.index-buckets-found.result refl within
    c.index-buckets-found.is in
    policy-there c.args.database.now c.buckets.result.now c.args.found c.index-buckets-found.result c.in-Some.place
    c.buckets.ensures.buckets c.buckets.ensures.in_order.names_rise there c.in-Some.is c.requires

-- the policy's result is lent
pub returns-in-Some : goal.returns-in-Some
returns-in-Some c =
    let within = bucket-there c.args.database.now c.buckets.result.now c.args.found c.buckets.ensures.buckets
    c.requires in
    let bucket = c.index-buckets-found.result in
    let policy = c.policy_at-policy.result.now in
    let there = slice_get_read c.buckets.result.now _ c.args.found.bucket bucket refl within c.index-buckets-found.is in
    outcome_at-bucket c.args.database.now c.buckets.result.now c.args.found bucket (Some c.in-Some.place)
    c.buckets.ensures.buckets c.buckets.ensures.in_order.names_rise there c.in-Some.is
    ∙ ap (option_map (λ (p : Policy). let outcome : Outcome = record {
      result = p.result;
      cause = record { bucket = bucket.name; key = Some p.key };
    } in outcome))
    c.policy_at-policy.ensures
    ∙ (λ i. Some (record {
      result = policy.result;
      cause = record { bucket = sym c.name.ensures i; key = Some policy.key };
    }))

-- the fallback is lent
pub returns-in-None : goal.returns-in-None
returns-in-None c =
    let within = bucket-there c.args.database.now c.buckets.result.now c.args.found c.buckets.ensures.buckets
    c.requires in
    let bucket = c.index-buckets-found.result in
    let there = slice_get_read c.buckets.result.now _ c.args.found.bucket bucket refl within c.index-buckets-found.is in
    outcome_at-bucket c.args.database.now c.buckets.result.now c.args.found bucket None
    c.buckets.ensures.buckets c.buckets.ensures.in_order.names_rise there c.in-None.is
    ∙ (λ i. Some (record {
      result = sym c.fallback.ensures i;
      cause = record { bucket = sym c.name-in-None.ensures i; key = None };
    }))
