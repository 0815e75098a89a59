use Rattle.std.proofs.Common.{◌∙◌, List, [], ◌∷◌, ◌++◌, take, sym, ap, subst, arith}
use Rattle.std.proofs.lemmas.List.{take_more, take_all}
use Rattle.client_door.specs.declared.judgements.Judgement.{Judgement}
use Rattle.desk_server.specs.Monitoring.{RecordsEach}
use Rattle.desk_server.proofs.Recordings.{records_next}
use Rattle.desk_server.proofs.noted_checks.record_each.Goals as goal

pub loop-judgement-preserved : goal.loop-judgement-preserved
loop-judgement-preserved g c =
    let before : List Judgement = take c.loop-judgement.judgement-index c.args.judged.now in
    subst (λ (list : List Judgement). RecordsEach c.args.recorder.now list c.record.new.recorder)
    (sym (take_more c.args.judged.now c.loop-judgement.judgement-index c.judgement-item.result
    c.loop-judgement-test.true ∙ ap (λ (one : Judgement). before ++ one ∷ []) (sym c.judgement-item.is)))
    (records_next before c.judgement-item.result c.args.recorder.now c.loop-judgement.recorder c.record.new.recorder
    c.time_of-time.result c.record.result c.loop-judgement.invariant c.record.ensures)

pub returns : goal.returns
returns g c =
    subst (λ (list : List Judgement). RecordsEach c.args.recorder.now list c.loop-judgement.recorder)
    (take_all c.loop-judgement.judgement-index c.args.judged.now (omega arith)) c.loop-judgement.invariant
