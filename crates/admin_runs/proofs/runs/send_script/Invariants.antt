use Rattle.std.proofs.Common.{◌≡◌}
use Rattle.script_words.specs.declared.places.Place.TheVariants.{Admin}
use Rattle.script_replies.specs.Reading.{Goes}
use Rattle.admin_client.specs.Sending.{with_dial}
use Rattle.run_endings.specs.Outside.{sink_seen}
use Rattle.admin_runs.proofs.Scripts.{Sends}
use Rattle.admin_runs.proofs.runs.send_script.Given as goal

-- the messages of the lines so far were sent and answered
abbrev pub invariant-loop-script : goal.invariant-loop-script
invariant-loop-script g l =
    record {
      goes : Goes Admin (g.S.Source.left l.fn.source) (g.S.Source.left l.source) l.script.reader l.lines
          (Sends g.N.Link.Link.faults g.N.Link.Link.marks g.N.Link.Link.traffic g.N.Dial.faults g.N.Dial.dials g.N.Dial.given_back
          (with_dial l.fn.dial l.fn.link) (with_dial l.dial l.link)
          (sink_seen g.K.Sink.taken g.K.Sink.faults l.fn.sink) (sink_seen g.K.Sink.taken g.K.Sink.faults l.sink));
      source : g.S.Source.faults l.source ≡ g.S.Source.faults l.fn.source;
    }

abbrev pub decreases-loop-script : goal.decreases-loop-script
decreases-loop-script g l = l.lines.room
