use Rattle.std.proofs.Common.{◌≡◌, rules, subst, true, inl}
use Rattle.cynara_keys.specs.Key.{Question}
use Rattle.client_runs.specs.AskedOnce.{first_frame, AsksOnce}
use Rattle.ctl_door.specs.Answering.{probe_question}
use Rattle.ctl_door.proofs.answering.answers_check.Goals as goal

-- the question is the one of this name
pub returns : goal.returns
returns g c =
    let is : c.in-Ok.question ≡ probe_question = search rules in
    inl (
      c.ask_once-answer.result,
      subst (λ (question : Question). AsksOnce g.N.Link.Link.faults g.N.Link.Link.marks g.N.Link.Link.traffic g.N.Dial.faults
          g.N.Dial.dials g.N.Dial.given_back (first_frame true question) c.ask_once-answer.result c.args.dial.now
          c.ask_once-answer.new.dial) is c.ask_once-answer.ensures,
      c.unless_answered.ensures,
    )
