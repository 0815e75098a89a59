use Rattle.std.proofs.Common.{rules, ◌≡◌, false}
use Rattle.cynara_keys.specs.PolicyResult.{is_agent}
use Rattle.bucket_eval.specs.Lent.{outcome_lent}
use Rattle.client_door.proofs.InPlace.{rules_judged}
use Rattle.client_door.proofs.judging.judge_answer.Goals as goal

pub returns-in-Ok : goal.returns-in-Ok
returns-in-Ok c =
    let no_agent : is_agent (outcome_lent c.args.answer.now).result.kind ≡ false = search rules in
    rules_judged c.args.sequence c.args._simple c.args.commit c.args.answer.now c.args.frames.now c.encode_judged_behind.new.frames _ no_agent
    c.in-Ok.ensures.spelled (search rules)
