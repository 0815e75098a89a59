use Rattle.std.proofs.Common.{refl}
use Rattle.admin_client.specs.Sending.{with_dial}
use Rattle.run_endings.specs.Outside.{sink_seen}
use Rattle.run_endings.specs.declared.endings.Ending.TheVariants.{Memory, Line}
use Rattle.admin_runs.specs.parts.Line.{StopsAtLine}
use Rattle.admin_runs.proofs.Talking.{talk_none}
use Rattle.admin_runs.proofs.admin_scripts.AdminScript.send_line.Goals as goal

pub returns-in-Err-Syntax : goal.returns-in-Err-Syntax
returns-in-Err-Syntax g c =
    let state = with_dial c.args.dial.now c.args.link.now in
    StopsAtLine.wrong refl (rw c.in-Err-Syntax.field-0-is at c.in-Err-Syntax.ensures.turn).0
    (talk_none g.N.Link.Link.faults g.N.Link.Link.marks g.N.Link.Link.traffic g.N.Dial.faults g.N.Dial.dials g.N.Dial.given_back
    (Line c.args.number) state state (sink_seen g.K.Sink.taken g.K.Sink.faults c.args.sink.now)
    (sink_seen g.K.Sink.taken g.K.Sink.faults c.note_script_line.new.sink) tt refl c.note_script_line.ensures.taken
    c.note_script_line.ensures.count)

pub returns-in-Err-Memory : goal.returns-in-Err-Memory
returns-in-Err-Memory g c =
    let state = with_dial c.args.dial.now c.args.link.now in
    let seen = sink_seen g.K.Sink.taken g.K.Sink.faults c.args.sink.now in
    StopsAtLine.unread refl
    (talk_none g.N.Link.Link.faults g.N.Link.Link.marks g.N.Link.Link.traffic g.N.Dial.faults g.N.Dial.dials g.N.Dial.given_back
    Memory state state seen seen tt refl refl refl)
