use Rattle.std.proofs.Common.{◌≡◌, ◌-◌, ◌≤◌, length, None, Some, refl, sym, ap, ◌∙◌, subst, arith}
use Rattle.std.proofs.lemmas.Option.{slice_get-get_or}
use Rattle.bucket_eval.specs.parts.Buckets.{Offers}
use Rattle.bucket_eval.specs.parts.Slots.{Looks, offered_to}
use Rattle.bucket_eval.proofs.InTurn.{least_from, least_from-down, least_from-offer, least_from-silent}
use Rattle.bucket_eval.proofs.InTurn.{least_from-first, least_from-last}
use Rattle.bucket_eval.proofs.Kept.{policy-at}
use Rattle.bucket_eval.proofs.Offers.{IsOwn-offered}
use Rattle.bucket_eval.proofs.nested.least_in_turn.Goals as goal

-- no policy is looked at yet
pub loop-place-init : goal.loop-place-init
loop-place-init c =
    let asked = c.args.asked.now in
    let bucket = c.args.bucket.now in (
      c.requires.order,
      least_from-first asked.buckets.now (offered_to asked bucket.name) asked.question.now
          (IsOwn-offered asked.buckets.now asked.question.now asked.deep (length asked.buckets.now) bucket.name).silent
          bucket.policies c.args.window c.requires.within c.requires.order c.requires.outside,
    )

pub offer_of-requires-clause-policy : goal.offer_of-requires-clause-policy
offer_of-requires-clause-policy c =
    let policy = c.index-policies-place.result in
    let at = c.loop-place.place - 1 in
    slice_get-get_or c.args.bucket.now.policies at policy (omega arith)
    ∙ ap Some (sym (policy-at c.args.bucket.now.policies _ at policy c.policies-policies.ensures c.index-policies-place.is))

-- the lesser of the offer and the best of those behind it
pub loop-place-preserved-in-Offered : goal.loop-place-preserved-in-Offered
loop-place-preserved-in-Offered c =
    let asked = c.args.asked.now in
    let buckets = asked.buckets.now in
    let policies = c.args.bucket.now.policies in
    let policy = c.index-policies-place.result in
    let at = c.loop-place.place - 1 in
    let of_policy = offered_to asked c.args.bucket.now.name in
    let lower : c.args.window.start ≤ at = omega arith in (
      lower,
      subst (λ best. Offers buckets (least_from buckets of_policy policies at) (Some best)) (sym c.least_of.ensures)
          (least_from-offer buckets of_policy policies at policy c.in-Offered.offer c.loop-place.best (omega arith)
          (policy-at policies _ at policy c.policies-policies.ensures c.index-policies-place.is)
          (subst (Looks asked c.args.slots.now c.args.bucket.now.name (of_policy policy)) c.in-Offered.is c.offer_of.ensures)
          (least_from-down buckets of_policy policies c.loop-place.place _ _ (omega arith) refl c.loop-place.invariant.1)),
    )

pub loop-place-preserved : goal.loop-place-preserved
loop-place-preserved c =
    let asked = c.args.asked.now in
    let buckets = asked.buckets.now in
    let policies = c.args.bucket.now.policies in
    let policy = c.index-policies-place.result in
    let at = c.loop-place.place - 1 in
    let of_policy = offered_to asked c.args.bucket.now.name in
    let lower : c.args.window.start ≤ at = omega arith in (
      lower,
      least_from-silent buckets of_policy policies at policy c.loop-place.best (omega arith)
          (policy-at policies _ at policy c.policies-policies.ensures c.index-policies-place.is)
          (subst (Looks asked c.args.slots.now c.args.bucket.now.name (of_policy policy)) c.in-Silent.is c.offer_of.ensures)
          (least_from-down buckets of_policy policies c.loop-place.place _ _ (omega arith) refl c.loop-place.invariant.1),
    )

-- all that match are looked at
pub returns-in-Some : goal.returns-in-Some
returns-in-Some c =
    let asked = c.args.asked.now in
    let bucket = c.args.bucket.now in
    let of_policy = offered_to asked bucket.name in
    let first : c.loop-place.place ≡ c.args.window.start = omega arith in
    least_from-last asked.buckets.now of_policy asked.question.now
    (IsOwn-offered asked.buckets.now asked.question.now asked.deep (length asked.buckets.now) bucket.name).silent
    bucket.policies c.args.window c.requires.within c.requires.order c.requires.outside (Some c.in-Some.offer)
    (subst (Offers asked.buckets.now (least_from asked.buckets.now of_policy bucket.policies c.args.window.start)) c.in-Some.is
    (subst (λ place. Offers asked.buckets.now (least_from asked.buckets.now of_policy bucket.policies place) c.loop-place.best)
    first c.loop-place.invariant.1))

pub returns-in-None : goal.returns-in-None
returns-in-None c =
    let asked = c.args.asked.now in
    let bucket = c.args.bucket.now in
    let of_policy = offered_to asked bucket.name in
    let first : c.loop-place.place ≡ c.args.window.start = omega arith in
    least_from-last asked.buckets.now of_policy asked.question.now
    (IsOwn-offered asked.buckets.now asked.question.now asked.deep (length asked.buckets.now) bucket.name).silent
    bucket.policies c.args.window c.requires.within c.requires.order c.requires.outside None
    (subst (Offers asked.buckets.now (least_from asked.buckets.now of_policy bucket.policies c.args.window.start)) c.in-None.is
    (subst (λ place. Offers asked.buckets.now (least_from asked.buckets.now of_policy bucket.policies place) c.loop-place.best)
    first c.loop-place.invariant.1))
