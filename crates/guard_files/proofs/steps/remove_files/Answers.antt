use Rattle.std.proofs.Common.{◌+◌, List, ℕ, None, take, drop, subst, sym, ◌∙◌}
use Rattle.guard_files.specs.parts.Changes.{Change, removals}
use Rattle.guard_files.proofs.Rows.{IsAfter, IsAfter-more, IsAfter-failed, row_so_far, row_split}
use Rattle.guard_files.proofs.steps.remove_files.Goals as goal

abbrev removal : List ℕ → Change
removal name = (name, None)

pub returns-in_err-remove-clause-moments : goal.returns-in_err-remove-clause-moments
returns-in_err-remove-clause-moments g c =
    IsAfter-failed g.D.Disk.state g.D.Disk.moment g.D.Disk.left_since (removals c.args.names.now)
    (removals (take c.loop-name.name-index c.args.names.now)) (removals (drop (c.loop-name.name-index + 1) c.args.names.now))
    c.name-item.result None c.args.disk.now c.loop-name.disk c.remove.new.self
    (row_split removal c.args.names.now c.loop-name.name-index c.name-item.result c.loop-name-test.true c.name-item.is)
    c.loop-name.invariant.row c.in_err-remove.ensures.disturbed c.remove.ensures.time

pub loop-name-preserved : goal.loop-name-preserved
loop-name-preserved g c =
    record {
      row =
          subst
          (λ done. IsAfter g.D.Disk.state g.D.Disk.moment g.D.Disk.left_since (removals c.args.names.now) done c.args.disk.now c.remove.new.self)
          (sym (row_so_far removal c.args.names.now c.loop-name.name-index c.name-item.result c.loop-name-test.true c.name-item.is))
          (IsAfter-more g.D.Disk.state g.D.Disk.moment g.D.Disk.left_since (removals c.args.names.now)
          (removals (take c.loop-name.name-index c.args.names.now)) (removals (drop (c.loop-name.name-index + 1) c.args.names.now))
          c.name-item.result None c.args.disk.now c.loop-name.disk c.remove.new.self
          (row_split removal c.args.names.now c.loop-name.name-index c.name-item.result c.loop-name-test.true c.name-item.is)
          c.loop-name.invariant.row c.in_ok-remove.ensures.removed c.remove.ensures.time);
      count = c.in_ok-remove.ensures.count ∙ c.loop-name.invariant.count;
    }

pub returns-in_err-remove-clause-tells : goal.returns-in_err-remove-clause-tells
returns-in_err-remove-clause-tells g c before told =
    let failed = c.in_err-remove.ensures.disturbed _ (c.loop-name.invariant.row.reached before told) in
    (failed.0, failed.1)
