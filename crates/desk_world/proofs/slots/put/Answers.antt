use Rattle.std.proofs.Common.{◌≡◌, [], ◌∷◌, ◌++◌, set, sym, subst, ◌∙◌}
use Rattle.desk_world.specs.World.{put_client}
use Rattle.desk_world.specs.declared.clients.Slot.{Slot}
use Rattle.desk_world.proofs.slots.put.Goals as goal

pub returns-in-Some : goal.returns-in-Some
returns-in-Some c =
    let slot : Slot = record { number = c.args.number; client = c.args.client } in
    subst (λ slots. set slots c.in-Some.at slot ≡ put_client c.args.number c.args.client slots) c.deref.ensures.value
    (sym (c.in-Some.ensures.put c.args.client))

pub returns-in_ok-push-in-None : goal.returns-in_ok-push-in-None
returns-in_ok-push-in-None c =
    let slot : Slot = record { number = c.args.number; client = c.args.client } in
    c.in_ok-push-in-None.ensures.items
    ∙ subst (λ slots. slots ++ slot ∷ [] ≡ put_client c.args.number c.args.client slots) c.deref.ensures.value
    (sym (c.in-None.ensures.put c.args.client))
