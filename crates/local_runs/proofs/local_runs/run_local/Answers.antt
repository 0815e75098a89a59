use Rattle.std.proofs.Common.{rules, ◌≡◌, ◌∙◌, ap, refl, sym, inl, inr}
use Rattle.run_endings.specs.Ending.{disk_faults_after}
use Rattle.run_endings.specs.Saying.{silence}
use Rattle.folder_runs.proofs.Mounting.{keeps-folder, refuses-folder, refuses-silent, refuses-count}
use Rattle.local_runs.proofs.local_runs.run_local.Goals as goal

pub returns-in-Err-clause-run : goal.returns-in-Err-clause-run
returns-in-Err-clause-run g c =
    rw c.ending_of_mount.ensures (
      silence,
      inl (record {
        folder =
            refuses-folder g.D.Disk.state g.D.Disk.moment g.D.Disk.left_since g.D.Disk.faults c.args.disk.now c.find.new.disk
            c.in-Err.refusal c.in-Err.ensures.damaged c.in-Err.ensures.moments;
        unread = refl;
      }),
      refuses-silent c.in-Err.refusal _,
    )

pub returns-in-Err-clause-source : goal.returns-in-Err-clause-source
returns-in-Err-clause-source g c = rw c.ending_of_mount.ensures (search rules)

pub returns-in-Err-clause-disk : goal.returns-in-Err-clause-disk
returns-in-Err-clause-disk g c =
    rw c.ending_of_mount.ensures (c.in-Err.ensures.count ∙ refuses-count c.in-Err.refusal
    (g.D.Disk.faults c.args.disk.now))

pub returns-clause-run : goal.returns-clause-run
returns-clause-run g c =
    let keeper = c.of-keeper.result in
    let of = c.of-keeper.ensures in
    let found = c.in-Ok.ensures in
    let new = c.answer_over-ending.new.keeper.vault.disk.now in
    let final : new ≡ c.disk-1.given.0 = search rules in
    let answered = c.answer_over-ending.ensures.run in
    rw (sym final) (
      answered.0,
      inr (record {
        start = keeper.desk;
        script = answered.1;
        folder =
            keeps-folder g.D.Disk.state g.D.Disk.moment g.D.Disk.left_since g.D.Disk.faults c.args.disk.now new
            keeper.vault.disk.now keeper.desk keeper.vault.held c.answer_over-ending.result answered.1.answered answered.1.steps
            (rw of.desk found.desk) (rw (of.desk, of.held, of.disk) found.settled)
            (rw of.disk found.moments) answered.2;
      }),
      answered.3,
    )

pub returns-clause-disk : goal.returns-clause-disk
returns-clause-disk g c =
    let of = c.of-keeper.ensures in
    let final : c.answer_over-ending.new.keeper.vault.disk.now ≡ c.disk-1.given.0 = search rules in
    rw (sym final)
    (c.answer_over-ending.ensures.disk
    ∙ ap (disk_faults_after c.answer_over-ending.result) (ap g.D.Disk.faults of.disk ∙ c.in-Ok.ensures.count))
