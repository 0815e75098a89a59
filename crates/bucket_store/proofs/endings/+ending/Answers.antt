use Rattle.std.proofs.Common.{◌≡◌, ◌∙◌, Some, [], sym, ap, subst}
use Rattle.std.specs.List.{AllByRecursion, flat_map}
use Rattle.std.proofs.lemmas.List.{get_or_default}
use Rattle.cynara_keys.specs.declared.keys.Policy.{Policy}
use Rattle.bucket_store.specs.Bucket.{Bucket}
use Rattle.bucket_store.specs.Database.{placed_of}
use Rattle.bucket_store.specs.parts.Edit.{bucket_of}
use Rattle.bucket_store.specs.parts.Ending.{name_at, AreEnding, Ends, LinkEnds}
use Rattle.bucket_store.proofs.Ending.{Ends-links, AreEnding-set, All-more}
use Rattle.bucket_store.proofs.endings.+ending.Goals as goal
use Rattle.bucket_store.proofs.endings.+ending.Goals.{bucket_ends-Else-not-policies_end}

pub bucket_ends-returns-then-is_set-clause-ends : goal.bucket_ends-returns-then-is_set-clause-ends
bucket_ends-returns-then-is_set-clause-ends t c =
    λ _. c.requires.told c.args.at (sym c.is_set.ensures ∙ c.if-is_set.true)

-- all of the bucket's policies send on to where walks end
ends : (t : _) (c : bucket_ends-Else-not-policies_end t)
    → Ends (flat_map placed_of c.args.buckets.now) (name_at c.args.buckets.now c.args.at)
ends t c =
    let buckets = c.args.buckets.now in
    let blank : Bucket = bucket_of [] (record { kind = 0; metadata = [] }) [] in
    let is =
    c.policies.ensures
    ∙ ap (λ (bucket : Bucket). bucket.policies)
    (c.index-buckets-at.is
    ∙ get_or_default buckets c.args.at c.index-buckets-at.result blank c.requires.there) in
    Ends-links buckets c.requires.rise c.args.at c.requires.there
    (subst (AllByRecursion (λ (policy : Policy). LinkEnds buckets policy.result)) is
    (c.policies_end.ensures.ends c.if-not-policies_end.false))

pub bucket_ends-returns-clause-told : goal.bucket_ends-returns-clause-told
bucket_ends-returns-clause-told t c =
    let way = goal.at.bucket_ends-returns-clause-told t c in
    subst (AreEnding c.args.buckets.now) (sym c.set.ensures)
    (AreEnding-set c.args.buckets.now c.requires.rise c.policies_end.new.ended c.args.at c.policies_end.ensures.told
    (ends t way.Else-not-policies_end))

pub bucket_ends-returns-clause-ends : goal.bucket_ends-returns-clause-ends
bucket_ends-returns-clause-ends t c =
    let way = goal.at.bucket_ends-returns-clause-ends t c in
    λ _. ends t way.Else-not-policies_end

pub link_ends-returns-in-Some-clause-ends : goal.link_ends-returns-in-Some-clause-ends
link_ends-returns-in-Some-clause-ends t c = λ yes at is.
    let both : Some c.in-Some.at ≡ Some at = sym c.in-Some.is ∙ c.link_place.ensures.place ∙ is in
    let same : c.in-Some.at ≡ at = cc in
    subst (λ i. Ends (flat_map placed_of c.args.buckets.now) (name_at c.args.buckets.now i)) same
    (c.bucket_ends.ensures.ends yes)

pub policies_end-loop-policy-preserved : goal.policies_end-loop-policy-preserved
policies_end-loop-policy-preserved t c = (
  c.link_ends.ensures.told,
  All-more (λ (policy : Policy). LinkEnds c.args.buckets.now policy.result) c.args.policies.now
      c.loop-policy.policy-index
      c.policy-item.result
      c.loop-policy-test.true c.policy-item.is c.loop-policy.invariant.1
      (c.link_ends.ensures.ends c.if-not-link_ends.false),
)
