use Rattle.std.proofs.Common.{refl, sym, subst, ◌∙◌, Ok}
use Rattle.text_lines.specs.LineReader.{LineReading}
use Rattle.script_words.specs.declared.places.Place.TheVariants.{Admin}
use Rattle.script_replies.specs.Reading.{Goes}
use Rattle.script_replies.proofs.Going.{goes_first}
use Rattle.admin_client.specs.Sending.{with_dial}
use Rattle.run_endings.specs.Outside.{sink_seen}
use Rattle.run_endings.specs.declared.endings.Ending.TheVariants.{Done}
use Rattle.admin_runs.specs.parts.Talk.{Talks}
use Rattle.admin_runs.specs.parts.Line.{Turns}
use Rattle.admin_runs.proofs.Talking.{talk_none}
use Rattle.admin_runs.proofs.Scripts.{Sends, sends_nothing, sends_next, sends_stopped, sends_over}
use Rattle.admin_runs.proofs.runs.send_script.Goals as goal

pub returns-in-Err-clause-sent : goal.returns-in-Err-clause-sent
returns-in-Err-clause-sent g c =
    sends_nothing g.N.Link.Link.faults g.N.Link.Link.marks g.N.Link.Link.traffic g.N.Dial.faults g.N.Dial.dials g.N.Dial.given_back
    (with_dial c.args.dial.now c.args.link.now) (sink_seen g.K.Sink.taken g.K.Sink.faults c.args.sink.now)
    (g.S.Source.left c.args.source.now)

pub loop-script-init : goal.loop-script-init
loop-script-init g c =
    let state = with_dial c.args.dial.now c.args.link.now in
    let seen = sink_seen g.K.Sink.taken g.K.Sink.faults c.args.sink.now in
    let left = g.S.Source.left c.args.source.now in
    let Kept = Sends g.N.Link.Link.faults g.N.Link.Link.marks g.N.Link.Link.traffic g.N.Dial.faults g.N.Dial.dials g.N.Dial.given_back
    state state seen seen in
    record {
      goes = subst (λ (lines : LineReading). Goes Admin left left c.new-script.result.reader lines Kept)
          (sym c.in-Ok.ensures)
          (goes_first Admin left c.new-script.result.reader c.new-script.ensures Kept
          (talk_none g.N.Link.Link.faults g.N.Link.Link.marks g.N.Link.Link.traffic g.N.Dial.faults g.N.Dial.dials
          g.N.Dial.given_back Done state state seen seen tt refl refl refl));
      source = refl;
    }

pub loop-script-preserved : goal.loop-script-preserved
loop-script-preserved g c =
    let old = with_dial c.args.dial.now c.args.link.now in
    let between = with_dial c.loop-script.dial c.loop-script.link in
    let new = with_dial c.send_next.new.dial c.send_next.new.link in
    let before = sink_seen g.K.Sink.taken g.K.Sink.faults c.args.sink.now in
    let mid = sink_seen g.K.Sink.taken g.K.Sink.faults c.loop-script.sink in
    let after = sink_seen g.K.Sink.taken g.K.Sink.faults c.send_next.new.sink in
    let turn = subst (λ found. Turns
    (Talks g.N.Link.Link.faults g.N.Link.Link.marks g.N.Link.Link.traffic g.N.Dial.faults g.N.Dial.dials
    g.N.Dial.given_back between new mid after) c.loop-script.script.reader c.send_next.new.self.reader
    (g.S.Source.left c.loop-script.source)
    (g.S.Source.left c.send_next.new.source) c.loop-script.lines c.send_next.new.lines (Ok found))
    c.in-Ok-true.field-0-test c.in-Ok-true.ensures.turn in
    record {
      goes = sends_next g.N.Link.Link.faults g.N.Link.Link.marks g.N.Link.Link.traffic g.N.Dial.faults g.N.Dial.dials g.N.Dial.given_back
          (g.S.Source.left c.args.source.now) (g.S.Source.left c.loop-script.source)
          (g.S.Source.left c.send_next.new.source)
          c.loop-script.script.reader c.send_next.new.self.reader c.loop-script.lines c.send_next.new.lines old between new before mid after
          c.loop-script.invariant.goes c.in-Ok-true.ensures.ended turn.0 turn.1;
      source = c.in-Ok-true.ensures.source ∙ c.loop-script.invariant.source;
    }

pub returns-in-Ok-false-clause-sent : goal.returns-in-Ok-false-clause-sent
returns-in-Ok-false-clause-sent g c =
    let old = with_dial c.args.dial.now c.args.link.now in
    let between = with_dial c.loop-script.dial c.loop-script.link in
    let new = with_dial c.send_next.new.dial c.send_next.new.link in
    let before = sink_seen g.K.Sink.taken g.K.Sink.faults c.args.sink.now in
    let mid = sink_seen g.K.Sink.taken g.K.Sink.faults c.loop-script.sink in
    let after = sink_seen g.K.Sink.taken g.K.Sink.faults c.send_next.new.sink in
    let last = sink_seen g.K.Sink.taken g.K.Sink.faults c.end_script.new.sink in
    let turn = subst (λ found. Turns
    (Talks g.N.Link.Link.faults g.N.Link.Link.marks g.N.Link.Link.traffic g.N.Dial.faults g.N.Dial.dials
    g.N.Dial.given_back between new mid after) c.loop-script.script.reader c.send_next.new.self.reader
    (g.S.Source.left c.loop-script.source)
    (g.S.Source.left c.send_next.new.source) c.loop-script.lines c.send_next.new.lines (Ok found))
    c.in-Ok-false.field-0-test c.in-Ok-false.ensures.turn in
    sends_over g.N.Link.Link.faults g.N.Link.Link.marks g.N.Link.Link.traffic g.N.Dial.faults g.N.Dial.dials g.N.Dial.given_back
    (g.S.Source.left c.args.source.now) (g.S.Source.left c.loop-script.source) (g.S.Source.left c.send_next.new.source)
    c.loop-script.script.reader c.send_next.new.self.reader c.loop-script.lines c.send_next.new.lines old between new before mid after
    c.loop-script.invariant.goes c.in-Ok-false.ensures.ended last turn.0 turn.1 turn.2
    c.end_script.ensures.taken c.end_script.ensures.count c.end_script.result c.end_script.ensures.ends

pub returns-in-Err-send_next-clause-sent : goal.returns-in-Err-send_next-clause-sent
returns-in-Err-send_next-clause-sent g c =
    sends_stopped g.N.Link.Link.faults g.N.Link.Link.marks g.N.Link.Link.traffic g.N.Dial.faults g.N.Dial.dials g.N.Dial.given_back
    (g.S.Source.left c.args.source.now) (g.S.Source.left c.loop-script.source) (g.S.Source.left c.send_next.new.source)
    c.loop-script.script.reader c.send_next.new.self.reader c.loop-script.lines c.send_next.new.lines
    (with_dial c.args.dial.now c.args.link.now) (with_dial c.loop-script.dial c.loop-script.link)
    (with_dial c.send_next.new.dial c.send_next.new.link) (sink_seen g.K.Sink.taken g.K.Sink.faults c.args.sink.now)
    (sink_seen g.K.Sink.taken g.K.Sink.faults c.loop-script.sink)
    (sink_seen g.K.Sink.taken g.K.Sink.faults c.send_next.new.sink)
    c.loop-script.invariant.goes c.in-Err-send_next.ensures.ended c.in-Err-send_next.ending c.in-Err-send_next.ensures.turn
