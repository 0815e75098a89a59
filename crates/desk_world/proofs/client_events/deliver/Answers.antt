use Rattle.std.proofs.Common.{rules, ◌≡◌, Some, subst}
use Rattle.std.specs.Prelude.{slice_get}
use Rattle.desk_world.specs.parts.Parts.{world_of}
use Rattle.desk_world.proofs.Becoming.{deliver_becomes}
use Rattle.desk_world.proofs.client_events.deliver.Goals as goal

pub returns : goal.returns
returns c =
    deliver_becomes (world_of c.args.world.now) c.args.client c.in-Some.ask c.in-Some-ask_at.asked.now c.in-Some-link.link
    c.in-Some-link_at.found.now c.in-Some-reply.transit (world_of c.receive.new.world)
    (search rules)
    (subst (λ asks. slice_get asks c.in-Some.ask ≡ Some c.in-Some-ask_at.asked.now) c.deref-2.ensures.value
    c.in-Some-ask_at.ensures)
    (search rules)
    (subst (λ links. slice_get links c.in-Some-link.link ≡ Some c.in-Some-link_at.found.now) c.deref-4.ensures.value
    c.in-Some-link_at.ensures)
    (search rules) (search rules) (search rules)
