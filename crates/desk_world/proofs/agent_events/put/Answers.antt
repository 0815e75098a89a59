use Rattle.std.proofs.Common.{rules, ◌≡◌, Some, subst}
use Rattle.std.specs.Prelude.{slice_get}
use Rattle.desk_world.specs.parts.Parts.{world_of}
use Rattle.desk_world.proofs.Becoming.{put_becomes}
use Rattle.desk_world.proofs.agent_events.put.Goals as goal

pub returns : goal.returns
returns c =
    put_becomes (world_of c.args.world.now) c.args.link c.args.full c.in-Some.found.now c.in-Some-question.ask
    c.in-Some-ask_at.asked.now c.in-Due.commit c.in-Due.kind c.in-Due.metadata (world_of c.put_to.new.world)
    (subst (λ links. slice_get links c.args.link ≡ Some c.in-Some.found.now) c.deref.ensures.value c.in-Some.ensures)
    (search rules)
    (subst (λ asks. slice_get asks c.in-Some-question.ask ≡ Some c.in-Some-ask_at.asked.now) c.deref-2.ensures.value
    c.in-Some-ask_at.ensures)
    (search rules) (search rules) (search rules) (search rules)
