use Rattle.std.proofs.Common.{rules, arith}
use Rattle.monitor_journal.proofs.Lines.{spells_nothing, spells_next, spells_fewer}
use Rattle.monitor_journal.proofs.journals.spell_entries.Goals as goal

pub loop-taken-init : goal.loop-taken-init
loop-taken-init g c = (omega arith, spells_nothing c.args.reader.now c.args.writing c.args.room.now)

pub loop-taken-preserved : goal.loop-taken-preserved
loop-taken-preserved g c = (
  search rules,
  spells_next c.loop-taken.taken c.args.reader.now c.loop-taken.reader c.next.new.self c.args.writing c.loop-taken.spelled c.spell-spelled.result c.args.room.now
      c.loop-taken.room c.spell-spelled.new.room c.in-Some.entry c.loop-taken.invariant.1 (search rules) c.in-Some.ensures.known c.spell-spelled.ensures,
)

pub returns-in_default : goal.returns-in_default
returns-in_default g c =
    spells_fewer c.loop-taken.taken 1024 c.args.reader.now _ c.args.writing c.loop-taken.spelled c.args.room.now c.loop-taken.room c.loop-taken.invariant.0 (search rules)

pub returns : goal.returns
returns g c =
    spells_fewer c.loop-taken.taken 1024 c.args.reader.now c.loop-taken.reader c.args.writing c.loop-taken.spelled c.args.room.now c.loop-taken.room c.loop-taken.invariant.0
    c.loop-taken.invariant.1
