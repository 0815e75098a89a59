use Rattle.std.proofs.Common.{rules, ◌≡◌, ◌∙◌, ◌++◌, ◌∷◌, [], List, refl, ap, arith}
use Rattle.desk_state.specs.DeskState.{DeskState}
use Rattle.live_desk.specs.History.{last_commit}
use Rattle.server_hall.specs.Tally.{after_hang}
use Rattle.admin_door.specs.Side.{side_of, with_shown}
use Rattle.admin_door.proofs.Showing.{last-behind, same-side, hung-last}
use Rattle.admin_door.proofs.Hanging.{hangs_last, hangs_same}
use Rattle.admin_door.proofs.publishing.show.Goals as goal

pub returns-in-Ok-clause-shown : goal.returns-in-Ok-clause-shown
returns-in-Ok-clause-shown g c =
    let desk = c.args.keeper.now.desk in
    let tally = g.A.Hall.tally c.args.hall.now in
    let old = side_of g.D.Disk.faults c.args.keeper.now c.args.publisher.now tally (g.A.Hall.calls c.args.hall.now) in
    let published : c.publish.new.self ≡ c.args.publisher.now ++ desk ∷ [] = search rules in
    let hung = hung-last c.args.publisher.now desk tally (g.A.Hall.tally c.hang.new.self)
    (c.hang.ensures.tally ∙ ap (λ (list : List DeskState). after_hang (last_commit 0 list) tally) published) in
    same-side (side_of g.D.Disk.faults c.args.keeper.now c.publish.new.self (g.A.Hall.tally c.hang.new.self)
    (g.A.Hall.calls c.hang.new.self))
    (with_shown desk old) refl refl published hung c.hang.ensures.calls refl

pub returns-in-Ok-clause-even : goal.returns-in-Ok-clause-even
returns-in-Ok-clause-even g c =
    let desk = c.args.keeper.now.desk in
    let published : c.publish.new.self ≡ c.args.publisher.now ++ desk ∷ [] = search rules in
    ap (λ (list : List DeskState). last_commit 0 list) published ∙ last-behind 0 c.args.publisher.now desk

pub returns-in-Ok-clause-behind : goal.returns-in-Ok-clause-behind
returns-in-Ok-clause-behind g c =
    let desk = c.args.keeper.now.desk in
    let published : c.publish.new.self ≡ c.args.publisher.now ++ desk ∷ [] = search rules in
    let even = ap (λ (list : List DeskState). last_commit 0 list) published ∙ last-behind 0 c.args.publisher.now desk in
    omega (arith, even)

-- a disconnect up to the last commit stands in the front
pub returns-in-Ok-clause-hangs : goal.returns-in-Ok-clause-hangs
returns-in-Ok-clause-hangs g c =
    hangs_last c.args.publisher.now c.publish.new.self c.args.hangs.now c.hang.new.hangs c.hang.ensures.begins c.hang.ensures.up_to

pub returns-in-Err-clause-hangs : goal.returns-in-Err-clause-hangs
returns-in-Err-clause-hangs g c = hangs_same c.args.publisher.now c.publish.new.self c.args.hangs.now c.in-Err.ensures.kept
