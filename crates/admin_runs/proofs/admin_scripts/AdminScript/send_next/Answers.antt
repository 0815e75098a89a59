use Rattle.std.proofs.Common.{refl, inl, subst, Ok}
use Rattle.admin_client.specs.Sending.{with_dial}
use Rattle.run_endings.specs.Outside.{sink_seen}
use Rattle.script_replies.specs.NextLine.{ReadsNext}
use Rattle.run_endings.specs.declared.endings.Ending.TheVariants.{Done}
use Rattle.admin_runs.proofs.Talking.{talk_none, talk_unread}
use Rattle.admin_runs.proofs.admin_scripts.AdminScript.send_next.Goals as goal

pub returns-in-Ok-false-clause-turn : goal.returns-in-Ok-false-clause-turn
returns-in-Ok-false-clause-turn g c =
    let state = with_dial c.args.dial.now c.args.link.now in (
      subst (λ found. ReadsNext (g.S.Source.left c.args.source.now)
          (g.S.Source.left c.read_next_line.new.source) c.args.lines.now
          c.read_next_line.new.lines (Ok found)) c.in-Ok-false.field-0-test c.in-Ok-false.ensures.next,
      refl,
      talk_none g.N.Link.Link.faults g.N.Link.Link.marks g.N.Link.Link.traffic g.N.Dial.faults g.N.Dial.dials g.N.Dial.given_back
          Done state state (sink_seen g.K.Sink.taken g.K.Sink.faults c.args.sink.now)
          (sink_seen g.K.Sink.taken g.K.Sink.faults c.read_next_line.new.sink) tt refl c.read_next_line.ensures.taken
          c.read_next_line.ensures.sink,
    )

pub returns-in-Err-clause-turn : goal.returns-in-Err-clause-turn
returns-in-Err-clause-turn g c =
    let state = with_dial c.args.dial.now c.args.link.now in
    inl (
      c.in-Err.ensures.next,
      talk_unread g.N.Link.Link.faults g.N.Link.Link.marks g.N.Link.Link.traffic g.N.Dial.faults g.N.Dial.dials g.N.Dial.given_back
          (g.S.Source.left c.args.source.now)
          (g.S.Source.left c.read_next_line.new.source) c.args.lines.now c.read_next_line.new.lines
          c.in-Err.ending state (sink_seen g.K.Sink.taken g.K.Sink.faults c.args.sink.now)
          (sink_seen g.K.Sink.taken g.K.Sink.faults c.read_next_line.new.sink) c.in-Err.ensures.next c.read_next_line.ensures.taken
          c.read_next_line.ensures.sink,
    )
