use Rattle.std.proofs.Common.{rules, arith}
use Rattle.std.proofs.lemmas.List.{take_all}
use Rattle.monitor_journal.proofs.Ends.{missed_next, missed_all, nothing_spelled}
use Rattle.monitor_journal.proofs.last_lines.spell_each_missed.Goals as goal

pub loop-recorder-init : goal.loop-recorder-init
loop-recorder-init c = nothing_spelled c.args.room.now

pub loop-recorder-preserved : goal.loop-recorder-preserved
loop-recorder-preserved c =
    missed_next c.args.recorders.now c.loop-recorder.recorder-index _ c.args.room.now c.loop-recorder.room c.spell_missed-spelled.new.room
    c.loop-recorder.spelled c.spell_missed-spelled.result c.loop-recorder-test.true c.recorder-item.is c.loop-recorder.invariant
    (search rules)

pub returns : goal.returns
returns c =
    missed_all c.args.recorders.now c.loop-recorder.recorder-index c.args.room.now c.loop-recorder.room c.loop-recorder.spelled (take_all c.loop-recorder.recorder-index c.args.recorders.now (omega arith))
    c.loop-recorder.invariant
