use Rattle.std.proofs.Common.{rules}
use Rattle.monitor_journal.specs.Journal.{entries_text, missed_lines}
use Rattle.monitor_journal.proofs.Ends.{from_empty}
use Rattle.monitor_journal.proofs.Writes.{writes_then}
use Rattle.monitor_journal.proofs.last_lines.write_end.Goals as goal

pub returns : goal.returns
returns g c =
    record {
      left = c.settle-settled.result;
      whole = c.settle-settled.ensures.whole;
      known = c.settle-settled.ensures.known;
      written = writes_then c.args.writing c.write_spelled-between.result c.write_spelled.result
          (entries_text c.settle-settled.result) (missed_lines c.args.recorders.items) _ _ _
          (c.write_spelled-between.ensures (entries_text c.settle-settled.result)
          (from_empty (entries_text c.settle-settled.result) c.spell_left-left_spelled.result c.new-left.result c.spell_left-left_spelled.new.room (search rules)
          c.spell_left-left_spelled.ensures))
          (c.write_spelled.ensures (missed_lines c.args.recorders.items)
          (from_empty (missed_lines c.args.recorders.items) c.spell_each_missed-missed_spelled.result c.new-missed.result
          c.spell_each_missed-missed_spelled.new.room (search rules) (search rules)));
    }
