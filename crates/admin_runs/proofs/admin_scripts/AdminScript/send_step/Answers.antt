use Rattle.std.proofs.Common.{inr, refl}
use Rattle.admin_client.specs.Sending.{with_dial}
use Rattle.run_endings.specs.Outside.{sink_seen}
use Rattle.run_endings.specs.declared.endings.Ending.TheVariants.{Done, Memory}
use Rattle.admin_runs.specs.parts.Talk.{Talks}
use Rattle.admin_runs.proofs.Talking.{talk_none, step_silent}
use Rattle.admin_runs.proofs.admin_scripts.AdminScript.send_step.Goals as goal

pub returns-in-Ok-None-clause-step : goal.returns-in-Ok-None-clause-step
returns-in-Ok-None-clause-step g c =
    let state = with_dial c.args.dial.now c.args.link.now in
    let seen = sink_seen g.K.Sink.taken g.K.Sink.faults c.args.sink.now in
    step_silent
    (Talks g.N.Link.Link.faults g.N.Link.Link.marks g.N.Link.Link.traffic g.N.Dial.faults g.N.Dial.dials g.N.Dial.given_back
    state state seen seen) c.args.step.now _ c.in-Ok-None.ensures c.in-Ok-None.field-0-is
    (talk_none g.N.Link.Link.faults g.N.Link.Link.marks g.N.Link.Link.traffic g.N.Dial.faults g.N.Dial.dials g.N.Dial.given_back
    Done state state seen seen tt refl refl refl)

pub returns-in-Err-clause-step : goal.returns-in-Err-clause-step
returns-in-Err-clause-step g c =
    let state = with_dial c.args.dial.now c.args.link.now in
    let seen = sink_seen g.K.Sink.taken g.K.Sink.faults c.args.sink.now in
    inr (
      refl,
      talk_none g.N.Link.Link.faults g.N.Link.Link.marks g.N.Link.Link.traffic g.N.Dial.faults g.N.Dial.dials g.N.Dial.given_back
          Memory state state seen seen tt refl refl refl,
    )
