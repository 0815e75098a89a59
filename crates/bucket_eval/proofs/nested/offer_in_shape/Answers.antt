use Rattle.std.proofs.Common.{◌≡◌, get_or, None, Some, sym, subst, length}
use Rattle.std.specs.List.Sorted.{IsStrictlySortedBy}
use Rattle.bucket_store.specs.Order.{policy_cmp}
use Rattle.bucket_eval.specs.parts.Shapes.{FitsAt}
use Rattle.bucket_eval.specs.parts.Slots.{Looks}
use Rattle.bucket_eval.proofs.Offers.{offered-one, offers-none}
use Rattle.bucket_eval.proofs.Kept.{rising-at}
use Rattle.bucket_eval.proofs.Marks.{fits-matches}
use Rattle.bucket_eval.proofs.nested.offer_in_shape.Goals as goal

pub place_of_shape-requires : goal.place_of_shape-requires
place_of_shape-requires c =
    subst (IsStrictlySortedBy policy_cmp) (sym c.policies-policies.ensures)
    (rising-at c.args.asked.now.buckets.now c.args.at c.args.bucket.now c.requires.kept.keys_rise c.requires.there)

-- the one policy of the shape
pub returns-in-Some : goal.returns-in-Some
returns-in-Some c =
    let asked = c.args.asked.now in
    let bucket = c.args.bucket.now in
    let policy = c.index-policies-place.result in
    let at = subst (FitsAt asked.question.now c.args.shape _) c.in-Some.is c.place_of_shape.ensures in
    subst (λ made. Looks asked c.args.slots.now bucket.name made c.offer_of_match.result)
    (sym (offered-one asked.buckets.now asked.question.now asked.deep (length asked.buckets.now) bucket.name c.args.shape
    bucket.policies c.in-Some.place policy
    (subst (λ policies. FitsAt asked.question.now c.args.shape policies (Some c.in-Some.place)) c.policies-policies.ensures
    at)
    (subst (λ policies. policy ≡ get_or policies c.in-Some.place policy) c.policies-policies.ensures
    c.index-policies-place.is)))
    c.offer_of_match.ensures

pub returns-in-None : goal.returns-in-None
returns-in-None c =
    let asked = c.args.asked.now in
    let bucket = c.args.bucket.now in
    let at = subst (FitsAt asked.question.now c.args.shape _) c.in-None.is c.place_of_shape.ensures in
    offers-none asked.buckets.now asked.question.now asked.deep (length asked.buckets.now) bucket.name c.args.shape
    bucket.policies
    (subst (λ policies. FitsAt asked.question.now c.args.shape policies None) c.policies-policies.ensures at)

-- the policy of the shape matches
pub offer_of_match-requires-clause-matches : goal.offer_of_match-requires-clause-matches
offer_of_match-requires-clause-matches c =
    let asked = c.args.asked.now in
    let policy = c.index-policies-place.result in
    let at = subst (FitsAt asked.question.now c.args.shape _) c.in-Some.is c.place_of_shape.ensures in
    fits-matches asked.question.now c.args.shape c.policies-policies.result.now c.in-Some.place policy at
    c.index-policies-place.is
