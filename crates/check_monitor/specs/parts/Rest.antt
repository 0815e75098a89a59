-- What is left in the queue, as it is kept.
use Rattle.std.specs.Prelude.{Bool, true, false, List, [], ◌∷◌, Option, Some, None}
use Rattle.monitor_rule.specs.declared.entries.Entry.{Entry}

-- nothing, or what the pass knows to be left, behind an entry that waits
abbrev pub rest_of : Bool → Option Entry → List Entry → List Entry
rest_of true waiting left = []
rest_of false None left = left
rest_of false (Some entry) left = entry ∷ left
