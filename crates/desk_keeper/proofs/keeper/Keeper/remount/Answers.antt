use Rattle.std.proofs.Common.{◌≡◌, ◌⊎◌, List, Option, Ok, Err, ap, sym, subst, ◌∙◌, arith}
use Rattle.std.proofs.lemmas.Bool.Decides.{nat_tests}
use Rattle.desk_ports.specs.declared.file_sets.SetFile.{SetFile}
use Rattle.desk_ports.specs.FileMap.{FileMap}
use Rattle.guard_files.specs.Mounted.{EndsAtRest}
use Rattle.guard_files.proofs.Entering.{in_survey, behind_survey}
use Rattle.set_text.specs.Fault.{Fault}
use Rattle.desk_state.specs.DeskState.{DeskState}
use Rattle.desk_keeper.specs.Kept.{desk_of_set, kept}
use Rattle.desk_keeper.specs.Keeping.{IsOlder}
use Rattle.desk_keeper.specs.parts.Reading.{RefusesSet}
use Rattle.desk_keeper.proofs.Keeping.{store-damage, set-damage, older-damage, first-damage, at-rest-kept, kept-of}
use Rattle.desk_keeper.proofs.Keeping.{store-unchanged, looked-unchanged, settled-damage, kept-spared, still-damaged, stamp-count}
use Rattle.desk_keeper.proofs.keeper.Keeper.remount.Goals as goal

-- as a remount tells damage: of the folder, or that it keeps an older state
abbrev Is : DeskState → FileMap → Fault → Type 0
Is last files fault = (kept files ≡ Err fault) ⊎ IsOlder last files fault

-- ---- the folder could not be looked at, or the store is damaged

pub returns-in-Err-clause-moments : goal.returns-in-Err-clause-moments
returns-in-Err-clause-moments g c before told =
    in_survey g.D.Disk.moment g.D.Disk.left_since before c.args.self.now.vault.disk.now c.look.new.self.disk.now
    (c.look.ensures.moments before told)

pub returns-in-Err-clause-damaged : goal.returns-in-Err-clause-damaged
returns-in-Err-clause-damaged g c =
    rw c.refusal_of.ensures (first-damage (g.D.Disk.state c.args.self.now.vault.disk.now) c.args.self.now.desk _
    (store-damage (g.D.Disk.state c.args.self.now.vault.disk.now) _ c.in-Err.refusal c.in-Err.ensures.damaged))

pub returns-in-Err-clause-unchanged : goal.returns-in-Err-clause-unchanged
returns-in-Err-clause-unchanged g c =
    rw c.refusal_of.ensures
    (store-unchanged (g.D.Disk.state c.args.self.now.vault.disk.now) (g.D.Disk.state c.look.new.self.disk.now) c.in-Err.refusal
    c.in-Err.ensures.damaged)

pub returns-in-Err-clause-spared : goal.returns-in-Err-clause-spared
returns-in-Err-clause-spared g c before told fault is = c.look.ensures.moments before told

pub returns-in-Err-clause-still_damaged : goal.returns-in-Err-clause-still_damaged
returns-in-Err-clause-still_damaged g c =
    rw c.refusal_of.ensures
    (still-damaged (g.D.Disk.state c.args.self.now.vault.disk.now) (g.D.Disk.state c.look.new.self.disk.now)
    (Is c.args.self.now.desk) _
    (first-damage (g.D.Disk.state c.args.self.now.vault.disk.now) c.args.self.now.desk _
    (store-damage (g.D.Disk.state c.args.self.now.vault.disk.now) _ c.in-Err.refusal c.in-Err.ensures.damaged))
    (store-unchanged (g.D.Disk.state c.args.self.now.vault.disk.now) (g.D.Disk.state c.look.new.self.disk.now) c.in-Err.refusal
    c.in-Err.ensures.damaged))

-- ---- the set that was found was refused

pub returns-in-Err-desk_of-clause-moments : goal.returns-in-Err-desk_of-clause-moments
returns-in-Err-desk_of-clause-moments g c before told =
    in_survey g.D.Disk.moment g.D.Disk.left_since before c.args.self.now.vault.disk.now c.look.new.self.disk.now
    (c.look.ensures.moments before told)

pub returns-in-Err-desk_of-clause-damaged : goal.returns-in-Err-desk_of-clause-damaged
returns-in-Err-desk_of-clause-damaged g c =
    first-damage (g.D.Disk.state c.args.self.now.vault.disk.now) c.args.self.now.desk _
    (set-damage (g.D.Disk.state c.args.self.now.vault.disk.now) c.in-Ok.found.held c.in-Err-desk_of.refusal
    (subst (λ held. RefusesSet held c.in-Err-desk_of.refusal) c.held.ensures c.in-Err-desk_of.ensures.refused)
    c.in-Ok.ensures.held)

pub returns-in-Err-desk_of-clause-unchanged : goal.returns-in-Err-desk_of-clause-unchanged
returns-in-Err-desk_of-clause-unchanged g c before told =
    looked-unchanged before (g.D.Disk.state c.look.new.self.disk.now) c.in-Err-desk_of.refusal (c.in-Ok.ensures.found before told).0

pub returns-in-Err-desk_of-clause-spared : goal.returns-in-Err-desk_of-clause-spared
returns-in-Err-desk_of-clause-spared g c before told fault is = c.look.ensures.moments before told

pub returns-in-Err-desk_of-clause-still_damaged : goal.returns-in-Err-desk_of-clause-still_damaged
returns-in-Err-desk_of-clause-still_damaged g c =
    still-damaged (g.D.Disk.state c.args.self.now.vault.disk.now) (g.D.Disk.state c.look.new.self.disk.now)
    (Is c.args.self.now.desk) c.in-Err-desk_of.refusal
    (first-damage (g.D.Disk.state c.args.self.now.vault.disk.now) c.args.self.now.desk _
    (set-damage (g.D.Disk.state c.args.self.now.vault.disk.now) c.in-Ok.found.held c.in-Err-desk_of.refusal
    (subst (λ held. RefusesSet held c.in-Err-desk_of.refusal) c.held.ensures c.in-Err-desk_of.ensures.refused)
    c.in-Ok.ensures.held))
    (λ before told.
    looked-unchanged before (g.D.Disk.state c.look.new.self.disk.now) c.in-Err-desk_of.refusal (c.in-Ok.ensures.found before told).0)

-- ---- the folder keeps an older state

pub returns-then-commit-clause-moments : goal.returns-then-commit-clause-moments
returns-then-commit-clause-moments g c before told =
    in_survey g.D.Disk.moment g.D.Disk.left_since before c.args.self.now.vault.disk.now c.look.new.self.disk.now
    (c.look.ensures.moments before told)

pub returns-then-commit-clause-damaged : goal.returns-then-commit-clause-damaged
returns-then-commit-clause-damaged g c =
    older-damage (g.D.Disk.state c.args.self.now.vault.disk.now) c.args.self.now.desk c.in-Ok-desk_of.desk c.older.result
    c.older.ensures
    (grind (arith, c.if-commit.true, c.commit.ensures.commit, c.commit-2.ensures.commit, nat_tests))
    (λ before told. kept-of before.current (Ok c.in-Ok.found.held) (c.in-Ok.ensures.held before told)
    ∙ ap desk_of_set (sym c.held.ensures) ∙ c.in-Ok-desk_of.ensures.desk)

pub returns-then-commit-clause-unchanged : goal.returns-then-commit-clause-unchanged
returns-then-commit-clause-unchanged g c before told =
    looked-unchanged before (g.D.Disk.state c.look.new.self.disk.now) c.older.result (c.in-Ok.ensures.found before told).0

pub returns-then-commit-clause-spared : goal.returns-then-commit-clause-spared
returns-then-commit-clause-spared g c before told fault is = c.look.ensures.moments before told

pub returns-then-commit-clause-still_damaged : goal.returns-then-commit-clause-still_damaged
returns-then-commit-clause-still_damaged g c =
    still-damaged (g.D.Disk.state c.args.self.now.vault.disk.now) (g.D.Disk.state c.look.new.self.disk.now)
    (Is c.args.self.now.desk) c.older.result
    (older-damage (g.D.Disk.state c.args.self.now.vault.disk.now) c.args.self.now.desk c.in-Ok-desk_of.desk c.older.result
    c.older.ensures
    (grind (arith, c.if-commit.true, c.commit.ensures.commit, c.commit-2.ensures.commit, nat_tests))
    (λ before told. kept-of before.current (Ok c.in-Ok.found.held) (c.in-Ok.ensures.held before told)
    ∙ ap desk_of_set (sym c.held.ensures) ∙ c.in-Ok-desk_of.ensures.desk))
    (λ before told.
    looked-unchanged before (g.D.Disk.state c.look.new.self.disk.now) c.older.result (c.in-Ok.ensures.found before told).0)

pub returns-then-commit-clause-count : goal.returns-then-commit-clause-count
returns-then-commit-clause-count g c =
    c.in-Ok.ensures.count
    ∙ sym (stamp-count c.older.result (g.D.Disk.faults c.args.self.now.vault.disk.now) c.older.ensures)

-- ---- the folder was brought to rest, or a call of the disk failed

pub returns-in-Err-settle-clause-moments : goal.returns-in-Err-settle-clause-moments
returns-in-Err-settle-clause-moments g c before told =
    let found = c.in-Ok.ensures.found before told in
    behind_survey g.D.Disk.moment g.D.Disk.left_since before
    (g.met.D.Disk.touched_only c.args.self.now.vault.disk.now before told) c.in-Ok.found.held (c.in-Ok.ensures.held before told)
    c.args.self.now.vault.disk.now c.look.new.self.disk.now c.settle.new.self.disk.now (c.look.ensures.moments before told)
    (c.settle.ensures.moments before found.0 found.1)

pub returns-in-Err-settle-clause-damaged : goal.returns-in-Err-settle-clause-damaged
returns-in-Err-settle-clause-damaged g c =
    rw c.refusal_of-in-Err-settle.ensures (settled-damage c.in-Err-settle.refusal _ c.in-Err-settle.ensures.undamaged)

pub returns-in-Err-settle-clause-unchanged : goal.returns-in-Err-settle-clause-unchanged
returns-in-Err-settle-clause-unchanged g c before told =
    rw c.refusal_of-in-Err-settle.ensures (settled-damage c.in-Err-settle.refusal _ c.in-Err-settle.ensures.undamaged)

pub returns-in-Err-settle-clause-spared : goal.returns-in-Err-settle-clause-spared
returns-in-Err-settle-clause-spared g c before told =
    kept-spared g.D.Disk.moment g.D.Disk.left_since c.args.self.now.vault.disk.now c.settle.new.self.disk.now before c.in-Ok-desk_of.desk
    (kept-of before.current (Ok c.in-Ok.found.held) (c.in-Ok.ensures.held before told)
    ∙ ap desk_of_set (sym c.held.ensures) ∙ c.in-Ok-desk_of.ensures.desk)

pub returns-in-Err-settle-clause-still_damaged : goal.returns-in-Err-settle-clause-still_damaged
returns-in-Err-settle-clause-still_damaged g c before told =
    rw c.refusal_of-in-Err-settle.ensures (settled-damage c.in-Err-settle.refusal _ c.in-Err-settle.ensures.undamaged)

pub returns-clause-desk : goal.returns-clause-desk
returns-clause-desk g c before told =
    kept-of before.current (Ok c.in-Ok.found.held) (c.in-Ok.ensures.held before told)
    ∙ ap desk_of_set (sym c.held.ensures) ∙ c.in-Ok-desk_of.ensures.desk

pub returns-clause-settled : goal.returns-clause-settled
returns-clause-settled g c before told =
    let found = c.in-Ok.ensures.found before told in
    at-rest-kept c.in-Ok-desk_of.desk c.settle.new.self.held (g.D.Disk.state c.settle.new.self.disk.now)
    (ap desk_of_set (c.in-Ok-settle.ensures.held ∙ sym c.held.ensures) ∙ c.in-Ok-desk_of.ensures.desk)
    (subst (λ (held : Option (List SetFile)). EndsAtRest held (g.D.Disk.state c.settle.new.self.disk.now)) (sym c.in-Ok-settle.ensures.held)
    (c.in-Ok-settle.ensures.settled before found.0 found.1))

pub returns-clause-moments : goal.returns-clause-moments
returns-clause-moments g c before told =
    let found = c.in-Ok.ensures.found before told in
    behind_survey g.D.Disk.moment g.D.Disk.left_since before
    (g.met.D.Disk.touched_only c.args.self.now.vault.disk.now before told) c.in-Ok.found.held (c.in-Ok.ensures.held before told)
    c.args.self.now.vault.disk.now c.look.new.self.disk.now c.settle.new.self.disk.now (c.look.ensures.moments before told)
    (c.settle.ensures.moments before found.0 found.1)

pub returns-clause-spared : goal.returns-clause-spared
returns-clause-spared g c before told =
    kept-spared g.D.Disk.moment g.D.Disk.left_since c.args.self.now.vault.disk.now c.settle.new.self.disk.now before c.in-Ok-desk_of.desk
    (kept-of before.current (Ok c.in-Ok.found.held) (c.in-Ok.ensures.held before told)
    ∙ ap desk_of_set (sym c.held.ensures) ∙ c.in-Ok-desk_of.ensures.desk)
