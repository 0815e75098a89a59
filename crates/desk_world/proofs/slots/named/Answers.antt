use Rattle.desk_world.proofs.slots.named.Goals as goal

pub returns-in-Some : goal.returns-in-Some
returns-in-Some c = c.in-Some.ensures.client c.index-slots-at.result

pub returns-in-None : goal.returns-in-None
returns-in-None c = c.in-None.ensures.client
