use Rattle.std.proofs.Common.{rules, ◌≡◌, ◌∙◌, ◌∷◌, [], inl, refl, ap}
use Rattle.desk_state.specs.DeskState.{DeskState}
use Rattle.wire_fields.specs.declared.messages.Message.TheVariants.{Done}
use Rattle.admin_door.specs.Side.{AdminSide, side_of, with_kept, with_shown}
use Rattle.admin_door.proofs.Showing.{same-side}
use Rattle.admin_door.proofs.commands.commit_prepared.Goals as goal

pub returns-in-Ok-show-clause-shown : goal.returns-in-Ok-show-clause-shown
returns-in-Ok-show-clause-shown g c =
    let desk = c.args.prepared.desk in
    let tally = g.A.Hall.tally c.args.hall.now in
    let calls = g.A.Hall.calls c.args.hall.now in
    let old = side_of g.D.Disk.faults c.args.keeper.now (g.P.KeptPublisher.states c.args.publisher.now) tally calls in
    let between = side_of g.D.Disk.faults c.commit.new.self (g.P.KeptPublisher.states c.prepare.new.self) tally calls in
    let kept : c.commit.new.self.desk ≡ desk = search rules in
    let keeps : between ≡ with_kept desk old =
    same-side between (with_kept desk old) kept c.in-Ok-commit.ensures.decided c.prepare.ensures.kept refl refl
    c.in-Ok-commit.ensures.count in
    let replies : c.in-Ok.done.items ≡ Done desk.commit c.args.prepared.erased ∷ [] = search rules in
    inl (
      c.in-Ok-show.ensures.shown ∙ (ap (λ (shown : DeskState). with_shown shown between) kept
          ∙ ap (λ (side : AdminSide). with_shown desk side) keeps),
      replies,
    )
