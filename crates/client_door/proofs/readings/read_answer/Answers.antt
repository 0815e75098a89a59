use Rattle.std.proofs.Common.{rules, ◌≡◌, true, false, sym, subst}
use Rattle.cynara_keys.specs.PolicyResult.{is_agent}
use Rattle.bucket_eval.specs.Lent.{outcome_lent}
use Rattle.client_door.specs.Reading.{Reads}
use Rattle.client_door.specs.declared.readings.Read.{Read}
use Rattle.client_door.proofs.Reading.{reads_judged, reads_not_resolved, reads_due}
use Rattle.client_door.proofs.readings.read_answer.Goals as goal

pub returns-in-Ok : goal.returns-in-Ok
returns-in-Ok c =
    let no_agent : is_agent (outcome_lent c.args.answer.now).result.kind ≡ false = search rules in
    subst (λ (read : Read). Reads c.args.sequence c.args.simple c.args.commit (outcome_lent c.args.answer.now) read) (sym c.judged.ensures)
    (reads_judged c.args.sequence c.args.simple c.args.commit c.args.answer.now c.encode_judged_into.new.frame _ no_agent
    c.in-Ok.ensures.spelled
    (search rules))

pub returns-then-simple : goal.returns-then-simple
returns-then-simple c =
    let agent : is_agent (outcome_lent c.args.answer.now).result.kind ≡ true = search rules in
    reads_not_resolved c.args.sequence c.args.simple c.args.commit c.args.answer.now c.kind-kind.result c.not_resolved.result.frame
    c.not_resolved.result.found agent (search rules) c.kind-kind.ensures c.not_resolved.ensures

pub returns-in-Ok-copy : goal.returns-in-Ok-copy
returns-in-Ok-copy c =
    let agent : is_agent (outcome_lent c.args.answer.now).result.kind ≡ true = search rules in
    reads_due c.args.simple c.args.commit c.args.answer.now c.kind-kind.result c.in-Ok-copy.metadata agent (search rules)
    c.kind-kind.ensures (search rules)
