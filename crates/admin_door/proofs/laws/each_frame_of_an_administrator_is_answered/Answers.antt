use Rattle.admin_door.specs.Running.{RunsOver}
use Rattle.admin_door.proofs.Complete.{complete}
use Rattle.admin_door.proofs.laws.each_frame_of_an_administrator_is_answered.Goals as goal

pub returns : goal.returns
returns g c result start now first last frames =
    complete result start now (RunsOver g.D.Disk.state g.D.Disk.moment g.D.Disk.left_since first last) frames
