use Rattle.std.proofs.Common.{subst, sym}
use Rattle.admin_client.specs.Sending.{with_dial}
use Rattle.run_endings.specs.Outside.{source_seen, sink_seen}
use Rattle.admin_runs.specs.parts.Talk.{Talks}
use Rattle.admin_runs.specs.parts.Script.{SendsAll}
use Rattle.admin_runs.proofs.Running.{runs, runs_count}
use Rattle.admin_runs.proofs.Completing.{completes-admin, counted_by, not-source, not-sink}
use Rattle.admin_runs.proofs.runs.run_admin.Goals as goal

pub returns-clause-run : goal.returns-clause-run
returns-clause-run g c =
    let sink = sink_seen g.K.Sink.taken g.K.Sink.faults c.args.sink.now in
    let sink_after = sink_seen g.K.Sink.taken g.K.Sink.faults c.send_script.new.sink in
    runs g.N.Link.Link.faults g.N.Link.Link.marks g.N.Link.Link.traffic g.N.Dial.faults g.N.Dial.dials g.N.Dial.given_back
    c.ending_by-ending.result (source_seen g.S.Source.left g.S.Source.faults c.args.source.now)
    (source_seen g.S.Source.left g.S.Source.faults c.send_script.new.source) sink sink_after
    c.args.dial.now c.send_script.new.dial c.leave.new.dial c.new-link.result c.send_script.new.link
    (subst (λ ending. SendsAll (Talks g.N.Link.Link.faults g.N.Link.Link.marks g.N.Link.Link.traffic g.N.Dial.faults g.N.Dial.dials
    g.N.Dial.given_back (with_dial c.args.dial.now c.new-link.result)
    (with_dial c.send_script.new.dial c.send_script.new.link) sink sink_after)
    (g.S.Source.left c.args.source.now) (g.S.Source.left c.send_script.new.source) ending)
    (sym c.ending_by-ending.ensures)
    c.send_script.ensures.sent)
    c.new-link.ensures c.leave.ensures.gives

pub returns-clause-count : goal.returns-clause-count
returns-clause-count g c =
    let sink = sink_seen g.K.Sink.taken g.K.Sink.faults c.args.sink.now in
    let sink_after = sink_seen g.K.Sink.taken g.K.Sink.faults c.send_script.new.sink in
    runs_count g.N.Link.Link.faults g.N.Link.Link.marks g.N.Link.Link.traffic g.N.Dial.faults g.N.Dial.dials g.N.Dial.given_back
    c.ending_by-ending.result (source_seen g.S.Source.left g.S.Source.faults c.args.source.now)
    (source_seen g.S.Source.left g.S.Source.faults c.send_script.new.source) sink sink_after
    c.args.dial.now c.send_script.new.dial c.leave.new.dial c.new-link.result c.send_script.new.link
    (subst (λ ending. SendsAll (Talks g.N.Link.Link.faults g.N.Link.Link.marks g.N.Link.Link.traffic g.N.Dial.faults g.N.Dial.dials
    g.N.Dial.given_back (with_dial c.args.dial.now c.new-link.result)
    (with_dial c.send_script.new.dial c.send_script.new.link) sink sink_after)
    (g.S.Source.left c.args.source.now) (g.S.Source.left c.send_script.new.source) ending)
    (sym c.ending_by-ending.ensures)
    c.send_script.ensures.sent)
    c.new-link.ensures c.leave.ensures.gives

pub returns-clause-completes : goal.returns-clause-completes
returns-clause-completes g c =
    let source = source_seen g.S.Source.left g.S.Source.faults c.args.source.now in
    let source_after = source_seen g.S.Source.left g.S.Source.faults c.send_script.new.source in
    let sink = sink_seen g.K.Sink.taken g.K.Sink.faults c.args.sink.now in
    let sink_after = sink_seen g.K.Sink.taken g.K.Sink.faults c.send_script.new.sink in
    let run = returns-clause-run g c in
    λ source_still sink_still net_still. (
      run.0,
      completes-admin g.N.Link.Link.faults g.N.Link.Link.marks g.N.Link.Link.traffic g.N.Dial.faults g.N.Dial.dials g.N.Dial.given_back
          run.0 source source_after c.args.dial.now c.leave.new.dial net_still c.ending_by-ending.result run.1
          (not-source c.ending_by-ending.result source.faults source_after.faults
          (counted_by c.send_script.result c.ending_by-ending.result source.faults source_after.faults c.ending_by-ending.ensures
          c.send_script.ensures.source) source_still)
          (not-sink c.ending_by-ending.result run.0 sink sink_after run.2 sink_still),
      run.2,
    )
