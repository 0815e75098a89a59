use Rattle.std.proofs.Common.{◌≤◌, List, length, sym, ap, ◌∙◌, arith}
use Rattle.cynara_keys.specs.declared.keys.Policy.{Policy}
use Rattle.bucket_eval.proofs.Staying.{alike-all, same-results}
use Rattle.bucket_eval.proofs.stays.stayed.Goals as goal

pub returns : goal.returns
returns c =
    let one = ap (λ (list : List Policy). length list) c.policies.ensures in
    let other = ap (λ (list : List Policy). length list) c.policies-2.ensures in
    let end = ap (λ (list : List Policy). length list) c.policies-place-end.ensures in
    let same = c.if-policies.false in
    let last : length c.args.before.now.policies ≤ c.loop-place.place = omega (arith, end) in
    record {
      fallback = sym c.fallback.ensures
          ∙ same-results c.fallback.result.now c.fallback-2.result.now c.ne.result c.ne.ensures c.if-ne.false
          ∙ c.fallback-2.ensures;
      policies = alike-all c.args.before.now.policies c.args.bucket.now.policies (omega (arith, one, other, same))
          (λ k less. c.loop-place.invariant k (omega (arith, less, last)));
    }
