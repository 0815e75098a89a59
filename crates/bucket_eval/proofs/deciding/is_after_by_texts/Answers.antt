use Rattle.std.proofs.Common.{◌≡◌, ◌∙◌}
use Rattle.std.specs.Ordering.{is_gt, ordering_then, nat_cmp}
use Rattle.cynara_keys.specs.Key.{key_cmp}
use Rattle.cynara_keys.specs.PolicyResult.{result_cmp}
use Rattle.bucket_eval.proofs.Kept.{rising-at}
use Rattle.bucket_eval.proofs.KeyOrder.{places-order}
use Rattle.bucket_eval.proofs.deciding.is_after_by_texts.Goals as goal

-- keys are in the order of the places
pub returns : goal.returns
returns c = λ bucket made last there offer_is other_is.
    let result = c.result_at-result.ensures made.outcome offer_is.known.there in
    let other_result = c.result_at-other_result.ensures last.outcome other_is.known.there in
    let keys : nat_cmp c.args.offer.now.place c.args.other.now.place ≡ key_cmp made.key last.key =
    places-order bucket.policies (rising-at c.args.asking.now.buckets.now c.args.at bucket c.requires.kept.keys_rise there)
    c.args.offer.now.place c.args.other.now.place offer_is.policy other_is.policy offer_is.there other_is.there
    ∙ (λ i. key_cmp (offer_is.key i) (other_is.key i)) in
    c.comes_after.ensures
    ∙ (λ i. is_gt (ordering_then (result_cmp (result i) (other_result i)) (keys i)))
