use Rattle.std.proofs.Common.{inl, inr, subst, sym, ap, ◌∙◌}
use Rattle.run_endings.specs.Ending.{disk_faults_after}
use Rattle.run_endings.specs.Saying.{silence}
use Rattle.folder_runs.specs.LoadRun.{LoadAnswers}
use Rattle.folder_runs.proofs.Mounting.{refuses-folder, refuses-silent, refuses-count, loads-rules, loads-count}
use Rattle.folder_runs.proofs.load_runs.run_load.Goals as goal

pub returns-in-Ok-clause-run : goal.returns-in-Ok-clause-run
returns-in-Ok-clause-run g c =
    let found = c.in-Ok.found in
    let written = c.write_rules.ensures in (
      written.0,
      inr
          (loads-rules g.D.Disk.state g.D.Disk.moment g.D.Disk.left_since g.D.Disk.faults c.args.disk.now c.find.new.disk
          written.0 found.desk found.held c.in-Ok.ensures.desk c.in-Ok.ensures.settled c.in-Ok.ensures.moments
          (λ left. g.met.D.Disk.only_now c.find.new.disk left) c.write_rules.result
          (subst (λ desk. LoadAnswers desk c.write_rules.result written.0.due) c.desk.ensures written.1)),
      written.2,
    )

pub returns-in-Ok-clause-disk : goal.returns-in-Ok-clause-disk
returns-in-Ok-clause-disk g c =
    let desk = c.in-Ok.found.desk in
    let written = c.write_rules.ensures in
    c.in-Ok.ensures.count
    ∙ loads-count c.write_rules.result desk written.0.due (g.D.Disk.faults c.args.disk.now)
    (subst (λ desk. LoadAnswers desk c.write_rules.result written.0.due) c.desk.ensures written.1)

pub returns-in-Err-clause-run : goal.returns-in-Err-clause-run
returns-in-Err-clause-run g c =
    rw c.ending_of_mount.ensures (
      silence,
      inl
          (refuses-folder g.D.Disk.state g.D.Disk.moment g.D.Disk.left_since g.D.Disk.faults c.args.disk.now c.find.new.disk
          c.in-Err.refusal c.in-Err.ensures.damaged c.in-Err.ensures.moments),
      refuses-silent c.in-Err.refusal _,
    )

pub returns-in-Err-clause-disk : goal.returns-in-Err-clause-disk
returns-in-Err-clause-disk g c =
    rw c.ending_of_mount.ensures (c.in-Err.ensures.count ∙ refuses-count c.in-Err.refusal (g.D.Disk.faults c.args.disk.now))
