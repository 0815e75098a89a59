use Rattle.std.proofs.Common.{take}
use Rattle.monitor_journal.specs.Journal.{missed_lines}
use Rattle.monitor_journal.specs.parts.Spelling.{Spells}
use Rattle.monitor_journal.specs.declared.writing.Writing.TheVariants.{GoesOn}
use Rattle.monitor_journal.proofs.last_lines.spell_each_missed.Given as goal

-- those so far were spelled
abbrev pub invariant-loop-recorder : goal.invariant-loop-recorder
invariant-loop-recorder l = Spells GoesOn l.fn.room (missed_lines (take l.recorder-index l.recorders)) l.spelled l.room
