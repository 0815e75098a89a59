use Rattle.std.proofs.Common.{rules}
use Rattle.monitor_journal.proofs.Ends.{left_none, left_next, left_all}
use Rattle.monitor_journal.proofs.last_lines.spell_left.Goals as goal

pub loop-entry-init : goal.loop-entry-init
loop-entry-init g c = left_none c.args.settled.now c.args.room.now

pub loop-entry-preserved : goal.loop-entry-preserved
loop-entry-preserved g c =
    left_next c.args.settled.now c.loop-entry.settled c.next.new.self c.in-Some.entry c.loop-entry.spelled c.spell-spelled.result c.args.room.now c.loop-entry.room
    c.spell-spelled.new.room c.loop-entry.invariant (search rules) c.spell-spelled.ensures

pub returns : goal.returns
returns g c = left_all c.args.settled.now c.loop-entry.settled c.loop-entry.spelled c.args.room.now c.loop-entry.room c.loop-entry.invariant (search rules)
