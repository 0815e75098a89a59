use Rattle.std.proofs.Common.{◌≡◌, ◌++◌, drop}
use Rattle.smack_rules.specs.parts.Changes.{joined_from, joined}
use Rattle.smack_rules.proofs.changes.joined.Given as goal

-- what is done, and what the changes that are left become behind the one under way
abbrev pub invariant-loop-next : goal.invariant-loop-next
invariant-loop-next l = l.changes.items ++ joined_from l.last (drop l.next-index l.later) ≡ joined l.fn.sorted
