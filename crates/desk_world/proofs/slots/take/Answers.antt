use Rattle.std.proofs.Common.{sym, ◌∙◌}
use Rattle.desk_world.proofs.Places.{put_after}
use Rattle.desk_world.proofs.slots.take.Goals as goal

pub returns-in-Some-clause-client : goal.returns-in-Some-clause-client
returns-in-Some-clause-client c = c.replace.ensures.value ∙ c.in-Some.ensures.client c.index-slots-at.result

pub returns-in-Some-clause-left : goal.returns-in-Some-clause-left
returns-in-Some-clause-left c client =
    put_after c.args.number c.in-Some.at c.args.slots.now client c.replace.new.dest _
    (c.in-Some.ensures.same c.index-slots-at.result) c.in-Some.ensures

pub returns-in-None-clause-client : goal.returns-in-None-clause-client
returns-in-None-clause-client c = c.unnamed-in-None.ensures ∙ sym c.in-None.ensures.client
