use Rattle.std.proofs.Common.{refl, sym, ◌∙◌, subst}
use Rattle.bucket_eval.specs.parts.Deciding.{IsLeast}
use Rattle.bucket_eval.proofs.Weighing.{lesser-after, lesser-before}
use Rattle.bucket_eval.proofs.deciding.lesser.Goals as goal

-- the best so far stays
pub returns-then-is_after : goal.returns-then-is_after
returns-then-is_after c = λ bucket policy outcome least there policy_there known_is least_is.
    lesser-after c.args.asking.now.buckets.now bucket.policies policy.key outcome c.args.known known_is c.args.place policy
    policy_there refl c.if-known-eq1.false least c.in-Some.other
    (subst (IsLeast c.args.asking.now.buckets.now bucket.policies least) c.in-Some.is least_is)
    (λ last offer_is other_is.
    sym c.if-is_after.true
    ∙ c.is_after.ensures bucket (record { outcome = outcome; key = policy.key }) last there offer_is other_is)

-- the policy's comes in its place
pub returns : goal.returns
returns c = λ bucket policy outcome least there policy_there known_is least_is.
    lesser-before c.args.asking.now.buckets.now bucket.policies policy.key outcome c.args.known known_is c.args.place policy
    policy_there refl c.if-known-eq1.false least c.in-Some.other
    (subst (IsLeast c.args.asking.now.buckets.now bucket.policies least) c.in-Some.is least_is)
    (λ last offer_is other_is.
    sym c.if-is_after.false
    ∙ c.is_after.ensures bucket (record { outcome = outcome; key = policy.key }) last there offer_is other_is)
