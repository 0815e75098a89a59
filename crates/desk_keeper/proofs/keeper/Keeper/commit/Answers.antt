use Rattle.std.proofs.Common.{ap, sym, subst, ◌∙◌}
use Rattle.guard_files.specs.Mounted.{EndsAtRest}
use Rattle.desk_keeper.specs.Kept.{desk_of_set}
use Rattle.desk_ports.specs.Moments.{LeavesOnly}
use Rattle.desk_keeper.specs.Commit.{Commit}
use Rattle.desk_keeper.specs.Keeping.{IsBeforeOrAfter}
use Rattle.desk_keeper.proofs.Keeping.{moments-one-of, moments-others, at-rest-kept}
use Rattle.desk_keeper.proofs.keeper.Keeper.commit.Goals as goal

pub returns-in-Err-clause-moments : goal.returns-in-Err-clause-moments
returns-in-Err-clause-moments g c before told kept =
    subst (λ (prepared : Commit). LeavesOnly g.D.Disk.moment g.D.Disk.left_since c.args.self.now.vault.disk.now
    c.replace.new.self.disk.now (IsBeforeOrAfter c.args.self.now.desk prepared.desk)) c.prepared.view_is
    (moments-one-of g.D.Disk.moment g.D.Disk.left_since c.args.self.now.vault.disk.now c.replace.new.self.disk.now
    before c.args.self.now.desk c.prepared.inside.desk c.args.self.now.vault.held c.prepared.inside.save.set kept.stands
    c.prepared.invariant
    (c.replace.ensures.moments before told kept.settled))

pub returns-clause-settled : goal.returns-clause-settled
returns-clause-settled g c before told kept =
    at-rest-kept c.prepared.inside.desk c.replace.new.self.held (g.D.Disk.state c.replace.new.self.disk.now)
    (ap desk_of_set c.in_default.ensures.held ∙ c.prepared.invariant)
    (subst (λ held. EndsAtRest held (g.D.Disk.state c.replace.new.self.disk.now)) (sym c.in_default.ensures.held)
    (c.in_default.ensures.settled before told kept.settled))

pub returns-clause-moments : goal.returns-clause-moments
returns-clause-moments g c before told kept =
    subst (λ (prepared : Commit). LeavesOnly g.D.Disk.moment g.D.Disk.left_since c.args.self.now.vault.disk.now
    c.replace.new.self.disk.now (IsBeforeOrAfter c.args.self.now.desk prepared.desk)) c.prepared.view_is
    (moments-one-of g.D.Disk.moment g.D.Disk.left_since c.args.self.now.vault.disk.now c.replace.new.self.disk.now
    before c.args.self.now.desk c.prepared.inside.desk c.args.self.now.vault.held c.prepared.inside.save.set kept.stands
    c.prepared.invariant
    (c.replace.ensures.moments before told kept.settled))

pub returns-in-Err-clause-others : goal.returns-in-Err-clause-others
returns-in-Err-clause-others g c before told kept =
    moments-others g.D.Disk.moment g.D.Disk.left_since c.args.self.now.vault.disk.now c.replace.new.self.disk.now before
    c.args.self.now.vault.held c.prepared.inside.save.set (c.replace.ensures.moments before told kept.settled)

pub returns-clause-others : goal.returns-clause-others
returns-clause-others g c before told kept =
    moments-others g.D.Disk.moment g.D.Disk.left_since c.args.self.now.vault.disk.now c.replace.new.self.disk.now before
    c.args.self.now.vault.held c.prepared.inside.save.set (c.replace.ensures.moments before told kept.settled)
