use Rattle.guard_files.specs.parts.Changes.{removals}
use Rattle.guard_files.proofs.Rows.{IsAfter-synced}
use Rattle.guard_files.proofs.settling.tidy.Goals as goal

pub returns-clause-moments : goal.returns-clause-moments
returns-clause-moments g c =
    IsAfter-synced g.D.Disk.state g.D.Disk.moment g.D.Disk.left_since (removals c.args.rest.now) c.args.disk.now c.remove_files.new.disk c.sync.new.self
    (record { reached = c.in_ok-remove_files.ensures.done; moments = c.remove_files.ensures.moments })
    c.in_ok-sync.ensures.durable (g.met.D.Disk.touched_only c.remove_files.new.disk) c.sync.ensures.time
