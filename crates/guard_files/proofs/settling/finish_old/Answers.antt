use Rattle.std.proofs.Common.{List, Some, Ok, sym, ◌∙◌, ap, subst}
use Rattle.desk_ports.specs.declared.file_sets.SetFile.{SetFile}
use Rattle.guard_files.specs.Mounted.{Rests, EndsAtRest}
use Rattle.guard_files.proofs.Renewing.{over_old}
use Rattle.guard_files.proofs.settling.finish_old.Goals as goal

pub returns-in-Ok-renew-clause-moments : goal.returns-in-Ok-renew-clause-moments
returns-in-Ok-renew-clause-moments g c base told unguarded reads are =
    let reads_held = reads ∙ ap Ok (sym c.requires.held) in
    over_old g.D.Disk.state g.D.Disk.moment g.D.Disk.left_since base.current c.args.set.now c.as_slice-3.result.now c.args.held.now
    c.args.disk.now c.finish.new.disk c.renew.new.disk c.requires.held c.as_slice-3.ensures.files
    (c.finish.ensures.moments base told unguarded reads_held are) (c.in-Ok-finish.ensures.done base told unguarded reads_held are)
    (c.renew.ensures.moments base.current)

pub returns-clause-moments : goal.returns-clause-moments
returns-clause-moments g c base told unguarded reads are =
    let reads_held = reads ∙ ap Ok (sym c.requires.held) in
    over_old g.D.Disk.state g.D.Disk.moment g.D.Disk.left_since base.current c.args.set.now c.as_slice-3.result.now c.args.held.now
    c.args.disk.now c.finish.new.disk c.renew.new.disk c.requires.held c.as_slice-3.ensures.files
    (c.finish.ensures.moments base told unguarded reads_held are) (c.in-Ok-finish.ensures.done base told unguarded reads_held are)
    (c.renew.ensures.moments base.current)

pub returns-in-Ok-renew-clause-done : goal.returns-in-Ok-renew-clause-done
returns-in-Ok-renew-clause-done g c base told unguarded reads are =
    let rests = c.in-Ok-finish.ensures.done base told unguarded (reads ∙ ap Ok (sym c.requires.held)) are in
    subst (λ (set : List SetFile). EndsAtRest (Some set) (g.D.Disk.state c.renew.new.disk)) c.as_slice-3.ensures.files
    (c.in-Ok-renew.ensures.done base.current
    (subst (λ held. Rests base.current held (g.D.Disk.state c.finish.new.disk)) (c.requires.held ∙ ap Some (sym c.as_slice-3.ensures.files)) rests))
