use Rattle.std.proofs.Common.{refl, subst, ◌∙◌}
use Rattle.folder_runs.specs.Keeping.{KeepsSteps}
use Rattle.run_endings.specs.Outside.{source_seen}
use Rattle.run_endings.specs.declared.endings.Ending.TheVariants.{Done}
use Rattle.local_runs.proofs.Finishing.{Run-finished, finished-source, finished-disk}
use Rattle.local_runs.proofs.local_runs.answer_over.Goals as goal

pub returns-in-Ok-clause-run : goal.returns-in-Ok-clause-run
returns-in-Ok-clause-run g c =
    let old = c.args.keeper.now in
    let new = c.answer_script.new.keeper in
    let answered = c.in-Ok.ensures.answered in
    Run-finished
    (KeepsSteps g.D.Disk.state g.D.Disk.moment g.D.Disk.left_since old.vault.disk.now new.vault.disk.now old.desk old.vault.held)
    old.desk (source_seen g.S.Source.left g.S.Source.faults c.args.source.now)
    (source_seen g.S.Source.left g.S.Source.faults c.answer_script.new.source)
    _ _ _ _ _ _ c.answer_script.new.script.answers Done Done answered.0 answered.1
    (λ number is. cc) c.in-Ok.ensures.sink (refl, refl, refl)

pub returns-clause-run : goal.returns-clause-run
returns-clause-run g c =
    let old = c.args.keeper.now in
    let new = c.answer_script.new.keeper in
    let answered = c.in-Err.ensures.answered in
    Run-finished
    (KeepsSteps g.D.Disk.state g.D.Disk.moment g.D.Disk.left_since old.vault.disk.now new.vault.disk.now old.desk old.vault.held)
    old.desk (source_seen g.S.Source.left g.S.Source.faults c.args.source.now)
    (source_seen g.S.Source.left g.S.Source.faults c.answer_script.new.source)
    _ _ _ _ _ _ c.answer_script.new.script.answers c.in-Err.ending c.finish.result answered.0 answered.1
    (λ number is. subst (λ ending. KeepsSteps g.D.Disk.state g.D.Disk.moment g.D.Disk.left_since old.vault.disk.now
    new.vault.disk.now old.desk old.vault.held ending answered.0.answered answered.0.steps) is answered.1)
    c.in-Err.ensures.sink c.finish.ensures

pub returns-clause-source : goal.returns-clause-source
returns-clause-source g c =
    c.in-Err.ensures.source
    ∙ finished-source c.in-Err.ending c.finish.result _ _ _ _ (g.S.Source.faults c.args.source.now)
    c.answer_script.new.script.answers c.finish.ensures

pub returns-clause-disk : goal.returns-clause-disk
returns-clause-disk g c =
    c.in-Err.ensures.disk
    ∙ finished-disk c.in-Err.ending c.finish.result _ _ _ _ (g.D.Disk.faults c.args.keeper.now.vault.disk.now)
    c.answer_script.new.script.answers c.finish.ensures
