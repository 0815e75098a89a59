use Rattle.monitor_journal.specs.declared.writing.Writing.TheVariants.{GoesOn}
use Rattle.monitor_journal.proofs.Lines.{writes_spelled}
use Rattle.monitor_journal.proofs.last_lines.write_spelled.Goals as goal

pub returns-in-GoesOn : goal.returns-in-GoesOn
returns-in-GoesOn g c text spells =
    rw c.in-GoesOn.is
    (writes_spelled GoesOn c.args.spelled c.write_room.result text c.args.room.now _ _ spells c.write_room.ensures)
