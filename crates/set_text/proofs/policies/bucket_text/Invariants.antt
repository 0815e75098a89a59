use Rattle.std.proofs.Common.{◌≡◌, take}
use Rattle.std.specs.List.{AllByRecursion}
use Rattle.set_text.specs.Buckets.{bucket_text}
use Rattle.set_text.specs.IsSpelt.{IsPolicy}
use Rattle.set_text.proofs.policies.bucket_text.Given as goal

-- the lines so far
abbrev pub invariant-loop-policy : goal.invariant-loop-policy
invariant-loop-policy l = record {
  text : l.text.items ≡ bucket_text (take l.policy-index l.policies);
  spelt : AllByRecursion IsPolicy (take l.policy-index l.policies);
}
