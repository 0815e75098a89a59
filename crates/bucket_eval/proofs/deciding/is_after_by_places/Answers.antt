use Rattle.std.proofs.Common.{◌≡◌, sym, ap, ◌∙◌}
use Rattle.std.specs.Ordering.{is_gt, ordering_then, nat_cmp}
use Rattle.cynara_keys.specs.Key.{key_cmp}
use Rattle.cynara_keys.specs.PolicyResult.{Ruling, result_cmp}
use Rattle.bucket_eval.specs.parts.Deciding.{is_bare}
use Rattle.bucket_eval.proofs.Kept.{rising-at}
use Rattle.bucket_eval.proofs.Known.{element-at}
use Rattle.bucket_eval.proofs.KeyOrder.{places-order}
use Rattle.bucket_eval.proofs.deciding.is_after_by_places.Goals as goal

pub comes_after_bare-requires-clause-alike : goal.comes_after_bare-requires-clause-alike
comes_after_bare-requires-clause-alike c =
    let here = element-at c.args.asking.now.buckets.now c.args.at c.requires.there in
    let offer = c.requires.offer here.0 here.1 in
    let other = c.requires.other here.0 here.1 in
    ap (λ (ruling : Ruling). ruling.kind) (c.result_at-result.ensures offer.made.outcome offer.is.known.there)
    ∙ sym offer.is.known.kind ∙ c.requires.alike ∙ other.is.known.kind
    ∙ sym (ap (λ (ruling : Ruling). ruling.kind)
    (c.result_at-other_result.ensures other.made.outcome other.is.known.there))

pub comes_after_bare-requires-clause-bare : goal.comes_after_bare-requires-clause-bare
comes_after_bare-requires-clause-bare c =
    let here = element-at c.args.asking.now.buckets.now c.args.at c.requires.there in
    let offer = c.requires.offer here.0 here.1 in
    ap (λ (ruling : Ruling). is_bare ruling.kind)
    (c.result_at-result.ensures offer.made.outcome offer.is.known.there)
    ∙ ap is_bare (sym offer.is.known.kind) ∙ c.requires.bare

-- keys are in the order of the places
pub returns : goal.returns
returns c = λ bucket made last there offer_is other_is.
    let result = c.result_at-result.ensures made.outcome offer_is.known.there in
    let other_result = c.result_at-other_result.ensures last.outcome other_is.known.there in
    let keys : nat_cmp c.args.offer.now.place c.args.other.now.place ≡ key_cmp made.key last.key =
    places-order bucket.policies (rising-at c.args.asking.now.buckets.now c.args.at bucket c.requires.kept.keys_rise there)
    c.args.offer.now.place c.args.other.now.place offer_is.policy other_is.policy offer_is.there other_is.there
    ∙ (λ i. key_cmp (offer_is.key i) (other_is.key i)) in
    c.comes_after_bare.ensures
    ∙ (λ i. is_gt (ordering_then (result_cmp (result i) (other_result i)) (keys i)))
