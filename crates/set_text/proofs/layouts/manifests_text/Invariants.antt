use Rattle.std.proofs.Common.{◌≡◌, [], map}
use Rattle.cynara_keys.specs.PolicyResult.{allow}
use Rattle.cynara_keys.specs.Key.{Key}
use Rattle.cynara_keys.specs.declared.keys.Policy.{Policy}
use Rattle.set_text.proofs.layouts.manifests_text.Given as goal

abbrev allowed : Key → Policy
allowed key = record { key = key; result = record { kind = allow; metadata = [] } }

-- the policies of the rows so far
abbrev pub invariant-loop-key : goal.invariant-loop-key
invariant-loop-key l = l.policies.items ≡ map allowed l.yielded
