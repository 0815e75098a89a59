use Rattle.admin_door.specs.Running.{RunsOver}
use Rattle.admin_door.proofs.Reaching.{serves-reach}
use Rattle.admin_door.proofs.laws.each_published_state_is_reached.Goals as goal

pub returns : goal.returns
returns g c result start now first last before served told known =
    serves-reach before start now result (RunsOver g.D.Disk.state g.D.Disk.moment g.D.Disk.left_since first last) served
    (served.keeps before told known).tells
