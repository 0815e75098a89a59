use Rattle.std.proofs.Common.{length}
use Rattle.monitor_journal.specs.parts.Spelling.{SpellsLeft}
use Rattle.monitor_journal.proofs.last_lines.spell_left.Given as goal

-- the lines of those so far were spelled
abbrev pub invariant-loop-entry : goal.invariant-loop-entry
invariant-loop-entry g l = SpellsLeft l.fn.settled l.settled l.spelled l.fn.room l.room

abbrev pub decreases-loop-entry : goal.decreases-loop-entry
decreases-loop-entry g l = length l.settled
