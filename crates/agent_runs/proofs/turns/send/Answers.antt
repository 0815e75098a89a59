use Rattle.std.proofs.Common.{ℕ, List, Result, Ok, Err, sym, subst}
use Rattle.client_core.specs.declared.steps.Step.{Step}
use Rattle.run_endings.specs.declared.endings.Ending.{Ending}
use Rattle.run_endings.specs.declared.endings.Ending.TheVariants.{Net}
use Rattle.agent_runs.specs.LinkSeen.{link_seen}
use Rattle.agent_runs.specs.parts.Turns.{Sends, SendsFrame}
use Rattle.agent_runs.proofs.Answering.{unsent, went_out, kept_back}
use Rattle.agent_runs.proofs.turns.send.Goals as goal
use Rattle.agent_runs.proofs.turns.send.Goals.{in-Send+in-Ok, in-Send+in-Err, in_default}

pub returns : goal.returns
returns g c =
    let frame = c.args.machine.now.frame in
    let before = link_seen g.L.Link c.args.link.now in
    elim c.match-step.branch [
      | in-Send+in-Ok w ↦
          let after = link_seen g.L.Link w.send.new.self in
          subst (λ l. Sends c.args.step frame c.match-step.result before (link_seen g.L.Link l)) (sym w.link-is)
          (subst (λ (r : Result (Unit {0}) Ending). Sends c.args.step frame r before after) (sym w.result-is)
          (subst (λ (s : Step). Sends s frame (Ok tt) before after) (sym w.in-Send.is)
          (subst (λ (bytes : List ℕ). SendsFrame bytes (Ok tt) before after) w.frame.ensures
          (went_out w.frame.result.now before after w.in-Ok.ensures.sent w.in-Ok.ensures.marks w.in-Ok.ensures.count))))
      | in-Send+in-Err w ↦
          let after = link_seen g.L.Link w.send.new.self in
          subst (λ l. Sends c.args.step frame c.match-step.result before (link_seen g.L.Link l)) (sym w.link-is)
          (subst (λ (r : Result (Unit {0}) Ending). Sends c.args.step frame r before after) (sym w.result-is)
          (subst (λ (s : Step). Sends s frame (Err Net) before after) (sym w.in-Send.is)
          (kept_back frame before after w.in-Err.ensures.unsent w.in-Err.ensures.marks w.in-Err.ensures.count)))
      | in_default w ↦
          subst (λ l. Sends c.args.step frame c.match-step.result before (link_seen g.L.Link l)) (sym w.link-is)
          (subst (λ (r : Result (Unit {0}) Ending). Sends c.args.step frame r before before) (sym w.result-is)
          (unsent c.args.step frame before w.in_default.not-Send))
    ]
