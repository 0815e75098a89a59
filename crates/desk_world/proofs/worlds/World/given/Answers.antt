use Rattle.std.proofs.Common.{subst}
use Rattle.desk_world.specs.Sound.{AllSound}
use Rattle.desk_world.proofs.worlds.World.given.Goals as goal

pub returns-clause-sound : goal.returns-clause-sound
returns-clause-sound c = subst AllSound c.self.view_is c.self.invariant.given
