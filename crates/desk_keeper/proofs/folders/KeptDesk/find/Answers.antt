use Rattle.std.proofs.Common.{List, Option, Ok, ap, sym, subst, ◌∙◌}
use Rattle.desk_ports.specs.declared.file_sets.SetFile.{SetFile}
use Rattle.guard_files.specs.Mounted.{EndsAtRest}
use Rattle.guard_files.proofs.Entering.{in_survey, behind_survey}
use Rattle.desk_keeper.specs.Kept.{desk_of_set}
use Rattle.desk_keeper.proofs.Keeping.{store-damage, set-damage, at-rest-kept, kept-of, store-unchanged}
use Rattle.desk_keeper.proofs.Keeping.{looked-unchanged, settled-damage, kept-spared}
use Rattle.desk_keeper.proofs.folders.KeptDesk.find.Goals as goal

-- the folder could not be looked at, or the store is damaged
pub returns-in-Err-clause-moments : goal.returns-in-Err-clause-moments
returns-in-Err-clause-moments g c before told =
    in_survey g.D.Disk.moment g.D.Disk.left_since before c.args.disk.now c.look.new.disk (c.look.ensures.moments before told)

pub returns-in-Err-clause-damaged : goal.returns-in-Err-clause-damaged
returns-in-Err-clause-damaged g c =
    rw c.refusal_of.ensures
    (store-damage (g.D.Disk.state c.args.disk.now) _ c.in-Err.refusal c.in-Err.ensures.damaged)

pub returns-in-Err-clause-unchanged : goal.returns-in-Err-clause-unchanged
returns-in-Err-clause-unchanged g c =
    rw c.refusal_of.ensures
    (store-unchanged (g.D.Disk.state c.args.disk.now) (g.D.Disk.state c.look.new.disk) c.in-Err.refusal c.in-Err.ensures.damaged)

pub returns-in-Err-clause-spared : goal.returns-in-Err-clause-spared
returns-in-Err-clause-spared g c before told fault is = c.look.ensures.moments before told

-- the set that was found was refused
pub returns-in-Err-desk_of-clause-moments : goal.returns-in-Err-desk_of-clause-moments
returns-in-Err-desk_of-clause-moments g c before told =
    in_survey g.D.Disk.moment g.D.Disk.left_since before c.args.disk.now c.look.new.disk (c.look.ensures.moments before told)

pub returns-in-Err-desk_of-clause-damaged : goal.returns-in-Err-desk_of-clause-damaged
returns-in-Err-desk_of-clause-damaged g c =
    set-damage (g.D.Disk.state c.args.disk.now) _ c.in-Err-desk_of.refusal c.in-Err-desk_of.ensures.refused
    (λ before told. c.in-Ok.ensures.held before told ∙ ap Ok (sym c.held.ensures))

pub returns-in-Err-desk_of-clause-unchanged : goal.returns-in-Err-desk_of-clause-unchanged
returns-in-Err-desk_of-clause-unchanged g c before told =
    looked-unchanged before (g.D.Disk.state c.look.new.disk) c.in-Err-desk_of.refusal (c.in-Ok.ensures.found before told).0

pub returns-in-Err-desk_of-clause-spared : goal.returns-in-Err-desk_of-clause-spared
returns-in-Err-desk_of-clause-spared g c before told fault is = c.look.ensures.moments before told

-- the folder was brought to rest, or a call of the disk failed
pub returns-in-Err-settle-clause-moments : goal.returns-in-Err-settle-clause-moments
returns-in-Err-settle-clause-moments g c before told =
    let found = c.in-Ok.ensures.found before told in
    behind_survey g.D.Disk.moment g.D.Disk.left_since before (g.met.D.Disk.touched_only c.args.disk.now before told)
    c.in-Ok.found.held (c.in-Ok.ensures.held before told) c.args.disk.now c.look.new.disk c.settle.new.disk
    (c.look.ensures.moments before told) (c.settle.ensures.moments before found.0 found.1)

pub returns-in-Err-settle-clause-damaged : goal.returns-in-Err-settle-clause-damaged
returns-in-Err-settle-clause-damaged g c =
    rw c.refusal_of-in-Err-settle.ensures (settled-damage c.in-Err-settle.refusal _ c.in-Err-settle.ensures.undamaged)

pub returns-in-Err-settle-clause-unchanged : goal.returns-in-Err-settle-clause-unchanged
returns-in-Err-settle-clause-unchanged g c before told =
    rw c.refusal_of-in-Err-settle.ensures (settled-damage c.in-Err-settle.refusal _ c.in-Err-settle.ensures.undamaged)

pub returns-in-Err-settle-clause-spared : goal.returns-in-Err-settle-clause-spared
returns-in-Err-settle-clause-spared g c before told =
    kept-spared g.D.Disk.moment g.D.Disk.left_since c.args.disk.now c.settle.new.disk before c.in-Ok-desk_of.desk
    (kept-of before.current (Ok c.in-Ok.found.held) (c.in-Ok.ensures.held before told)
    ∙ ap desk_of_set (sym c.held.ensures) ∙ c.in-Ok-desk_of.ensures.desk)

pub returns-in-Ok-settle-clause-desk : goal.returns-in-Ok-settle-clause-desk
returns-in-Ok-settle-clause-desk g c before told =
    kept-of before.current (Ok c.in-Ok.found.held) (c.in-Ok.ensures.held before told)
    ∙ ap desk_of_set (sym c.held.ensures) ∙ c.in-Ok-desk_of.ensures.desk

pub returns-in-Ok-settle-clause-settled : goal.returns-in-Ok-settle-clause-settled
returns-in-Ok-settle-clause-settled g c before told =
    let found = c.in-Ok.ensures.found before told in
    at-rest-kept c.in-Ok-desk_of.desk c.in-Ok-settle.found (g.D.Disk.state c.settle.new.disk)
    (ap desk_of_set (c.in-Ok-settle.ensures.held ∙ sym c.held.ensures) ∙ c.in-Ok-desk_of.ensures.desk)
    (subst (λ (held : Option (List SetFile)). EndsAtRest held (g.D.Disk.state c.settle.new.disk)) (sym c.in-Ok-settle.ensures.held)
    (c.in-Ok-settle.ensures.settled before found.0 found.1))

pub returns-in-Ok-settle-clause-moments : goal.returns-in-Ok-settle-clause-moments
returns-in-Ok-settle-clause-moments g c before told =
    let found = c.in-Ok.ensures.found before told in
    behind_survey g.D.Disk.moment g.D.Disk.left_since before (g.met.D.Disk.touched_only c.args.disk.now before told)
    c.in-Ok.found.held (c.in-Ok.ensures.held before told) c.args.disk.now c.look.new.disk c.settle.new.disk
    (c.look.ensures.moments before told) (c.settle.ensures.moments before found.0 found.1)

pub returns-in-Ok-settle-clause-spared : goal.returns-in-Ok-settle-clause-spared
returns-in-Ok-settle-clause-spared g c before told =
    kept-spared g.D.Disk.moment g.D.Disk.left_since c.args.disk.now c.settle.new.disk before c.in-Ok-desk_of.desk
    (kept-of before.current (Ok c.in-Ok.found.held) (c.in-Ok.ensures.held before told)
    ∙ ap desk_of_set (sym c.held.ensures) ∙ c.in-Ok-desk_of.ensures.desk)
